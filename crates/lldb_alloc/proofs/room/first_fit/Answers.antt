use Rattle.std.proofs.Common.{◌≡◌, ℕ, ◌+◌, ◌-◌, ◌/◌, ◌<◌, List, Option, Result, IfSome, subst, ◌∙◌, arith}
use Rattle.lldb_base.specs.declared.trouble.Trouble.{Trouble}
use Rattle.lldb_base.specs.Trouble.{Refuses}
use Rattle.lldb_alloc.specs.Changes.{HasFree, LacksFree, LacksRow}
use Rattle.lldb_alloc.specs.Room.{Walks}
use Rattle.lldb_alloc.specs.declared.links.FreeBlock.{FreeBlock}
use Rattle.lldb_alloc.proofs.Uses.{by_error}
use Rattle.lldb_alloc.proofs.Lists.{refuses_more}
use Rattle.lldb_alloc.proofs.Stays.{stops_then}
use Rattle.lldb_alloc.proofs.Walked.{walk_starts, walk_ends, walk_sane, walk_finds, walk_passes, walk_over}
use Rattle.lldb_alloc.proofs.room.first_fit.Goals as goal

pub walk-init : goal.walk-init
walk-init g c =
    let told : Option (List ℕ) = g.F.Filer.content c.args.filer.now in
    let none : 0 ≡ c.size-most.result / 16 + 1 - (c.size-most.result / 16 + 1) = omega arith in
    record {
      left = omega arith;
      content = c.in_ok-here.ensures.content;
      frame = c.in_ok-here.ensures.frame;
      stops = c.in_ok-here.ensures.stops;
      faults = c.in_ok-here.ensures.cause;
      walks = subst (λ (k : ℕ). IfSome told (Walks c.args.class c.args.wanted k c.in_ok-here.here)) none (walk_starts told c.args.class c.args.wanted c.in_ok-here.here c.requires.class c.in_ok-here.ensures.list);
    }

pub returns-then-here-eq0-clause-found : goal.returns-then-here-eq0-clause-found
returns-then-here-eq0-clause-found g c = walk_ends (g.F.Filer.content c.args.filer.now) c.args.class c.args.wanted (c.size-most.result / 16 + 1 - c.walk.left) c.walk.here c.if-here-eq0.true c.walk.invariant.walks

pub returns-in_err-free-clause-refuses : goal.returns-in_err-free-clause-refuses
returns-in_err-free-clause-refuses g c =
    let told : Option (List ℕ) = g.F.Filer.content c.args.filer.now in
    let here : Option (List ℕ) = g.F.Filer.content c.walk.filer in
    let P : Result (Option ℕ) Trouble → Type 0 = λ r. Refuses (λ _ _. ⊥) (IfSome told LacksRow) r in
    by_error P c.from_residual-in_err-free.result c.in_err-free.field-0.0 c.from_residual-in_err-free.ensures.1
    (refuses_more FreeBlock (Option ℕ) (IfSome here (LacksFree c.walk.here)) (IfSome told LacksRow)
    (λ lacks. walk_sane told c.args.class c.args.wanted (c.size-most.result / 16 + 1 - c.walk.left) c.walk.here c.if-here-eq0.false c.walk.invariant.walks (subst (λ (o : Option (List ℕ)). IfSome o (LacksFree c.walk.here)) c.walk.invariant.content.content lacks))
    c.in_err-free.field-0.0 c.in_err-free.ensures.refuses)

pub returns-then-free-wanted-clause-found : goal.returns-then-free-wanted-clause-found
returns-then-free-wanted-clause-found g c =
    let told : Option (List ℕ) = g.F.Filer.content c.args.filer.now in
    let has : IfSome told (HasFree c.walk.here c.in_ok-free.free) = subst (λ (o : Option (List ℕ)). IfSome o (HasFree c.walk.here c.in_ok-free.free)) c.walk.invariant.content.content c.in_ok-free.ensures.free in
    walk_finds told c.args.class c.args.wanted (c.size-most.result / 16 + 1 - c.walk.left) c.walk.here c.in_ok-free.free c.if-here-eq0.false c.if-free-wanted.true has c.walk.invariant.walks

pub walk-preserved : goal.walk-preserved
walk-preserved g c =
    let told : Option (List ℕ) = g.F.Filer.content c.args.filer.now in
    let has : IfSome told (HasFree c.walk.here c.in_ok-free.free) = subst (λ (o : Option (List ℕ)). IfSome o (HasFree c.walk.here c.in_ok-free.free)) c.walk.invariant.content.content c.in_ok-free.ensures.free in
    let low : c.in_ok-free.free.atoms < c.args.wanted = omega arith in
    let step : (c.size-most.result / 16 + 1 - c.walk.left) + 1 ≡ c.size-most.result / 16 + 1 - (c.walk.left - 1) = omega (arith, c.walk.invariant.left) in
    record {
      left = omega (arith, c.walk.invariant.left);
      content = record { content = c.in_ok-free.ensures.content.content ∙ c.walk.invariant.content.content; size = c.in_ok-free.ensures.content.size ∙ c.walk.invariant.content.size };
      frame = record {
        saved = c.in_ok-free.ensures.frame.saved ∙ c.walk.invariant.frame.saved;
        saved_sizes = c.in_ok-free.ensures.frame.saved_sizes ∙ c.walk.invariant.frame.saved_sizes;
        limit = c.in_ok-free.ensures.frame.limit ∙ c.walk.invariant.frame.limit;
        sound = c.in_ok-free.ensures.frame.sound ∙ c.walk.invariant.frame.sound;
        told = c.in_ok-free.ensures.frame.told ∙ c.walk.invariant.frame.told;
        left = c.in_ok-free.ensures.frame.left ∙ c.walk.invariant.frame.left;
        fixed = c.in_ok-free.ensures.frame.fixed ∙ c.walk.invariant.frame.fixed;
      };
      stops = stops_then c.walk.invariant.stops c.in_ok-free.ensures.stops;
      faults = c.in_ok-free.ensures.cause ∙ c.walk.invariant.faults;
      walks = subst (λ (k : ℕ). IfSome told (Walks c.args.class c.args.wanted k c.in_ok-free.free.next)) step (walk_passes told c.args.class c.args.wanted (c.size-most.result / 16 + 1 - c.walk.left) c.walk.here c.in_ok-free.free c.if-here-eq0.false low has c.walk.invariant.walks);
    }

pub returns-clause-refuses : goal.returns-clause-refuses
returns-clause-refuses g c =
    let told : Option (List ℕ) = g.F.Filer.content c.args.filer.now in
    let over : c.size-most.result / 16 + 1 - c.walk.left ≡ g.F.Filer.size_of c.args.filer.now / 16 + 1 = omega arith in
    walk_over told c.args.class c.args.wanted (c.size-most.result / 16 + 1 - c.walk.left) c.walk.here (g.F.Filer.size_of c.args.filer.now) (g.met.F.Filer.told_size c.args.filer.now c.requires.sound) over c.walk.invariant.walks
