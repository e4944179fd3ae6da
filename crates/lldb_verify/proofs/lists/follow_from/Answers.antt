use Rattle.std.proofs.Common.{ℕ, ◌-◌, List, Option, IfSome, sym, ◌∙◌, subst, arith}
use Rattle.lldb_verify.specs.Met.{Unmet, Follows}
use Rattle.lldb_verify.proofs.Ahead.{held_same}
use Rattle.lldb_verify.proofs.Meets.{walk_on, walk_stopped, walk_ended, walk_short}
use Rattle.lldb_verify.proofs.lists.follow_from.Goals as goal

pub returns-then-atom-eq0-clause-walked : goal.returns-then-atom-eq0-clause-walked
returns-then-atom-eq0-clause-walked g c = walk_ended (g.F.Filer.content c.args.filer.now) c.args.class (g.F.Filer.size_of c.args.filer.now) c.args.first c.walk.most c.walk.before c.walk.atom c.args.scratch.now c.walk.scratch c.if-atom-eq0.true c.walk.invariant.walks

pub walk-preserved : goal.walk-preserved
walk-preserved g c = record {
  walks = walk_on (g.F.Filer.content c.args.filer.now) (g.F.Filer.content c.walk.filer) c.args.class (g.F.Filer.size_of c.args.filer.now) c.args.first c.walk.most (c.walk.most - 1) c.walk.before c.walk.atom c.in-Some.next c.args.scratch.now c.walk.scratch c.follow.new.scratch c.walk.invariant.frame.content (let some = c.walk-test.true in omega (arith, some)) c.if-atom-eq0.false
      (subst (λ (o : Option ℕ). IfSome (g.F.Filer.content c.walk.filer) (λ b. (met : List ℕ) → Unmet b met c.walk.scratch → Follows b c.args.class met c.walk.before c.walk.atom c.follow.new.scratch o)) c.in-Some.is c.in_ok-next.ensures.followed) c.walk.invariant.walks;
  holds = held_same (g.F.Filer.content c.follow.new.filer) (g.F.Filer.content c.walk.filer) c.follow.new.near (sym c.in_ok-next.ensures.frame.content) c.in_ok-next.ensures.holds;
  count = c.in_ok-next.ensures.count ∙ c.walk.invariant.count;
  frame = record { content = c.in_ok-next.ensures.frame.content ∙ c.walk.invariant.frame.content; size = c.in_ok-next.ensures.frame.size ∙ c.walk.invariant.frame.size; saved = c.in_ok-next.ensures.frame.saved ∙ c.walk.invariant.frame.saved; saved_sizes = c.in_ok-next.ensures.frame.saved_sizes ∙ c.walk.invariant.frame.saved_sizes; limit = c.in_ok-next.ensures.frame.limit ∙ c.walk.invariant.frame.limit; sound = c.in_ok-next.ensures.frame.sound ∙ c.walk.invariant.frame.sound; told = c.in_ok-next.ensures.frame.told ∙ c.walk.invariant.frame.told; left = c.in_ok-next.ensures.frame.left ∙ c.walk.invariant.frame.left; fixed = c.in_ok-next.ensures.frame.fixed ∙ c.walk.invariant.frame.fixed };
  faults = c.in_ok-next.ensures.cause ∙ c.walk.invariant.faults;
}

pub returns-in-None-clause-walked : goal.returns-in-None-clause-walked
returns-in-None-clause-walked g c =
    walk_stopped (g.F.Filer.content c.args.filer.now) (g.F.Filer.content c.walk.filer) c.args.class (g.F.Filer.size_of c.args.filer.now) c.args.first c.walk.most (c.walk.most - 1) c.walk.before c.walk.atom c.args.scratch.now c.walk.scratch c.follow.new.scratch c.walk.invariant.frame.content (let some = c.walk-test.true in omega (arith, some)) c.if-atom-eq0.false
    (subst (λ (o : Option ℕ). IfSome (g.F.Filer.content c.walk.filer) (λ b. (met : List ℕ) → Unmet b met c.walk.scratch → Follows b c.args.class met c.walk.before c.walk.atom c.follow.new.scratch o)) c.in-None.is c.in_ok-next.ensures.followed) c.walk.invariant.walks

pub returns-clause-walked : goal.returns-clause-walked
returns-clause-walked g c = walk_short (g.F.Filer.content c.args.filer.now) c.args.class (g.F.Filer.size_of c.args.filer.now) c.args.first c.walk.most c.walk.before c.walk.atom c.args.scratch.now c.walk.scratch c.run_out.result (let none = c.walk-test.false in omega (arith, none)) c.run_out.ensures c.walk.invariant.walks
