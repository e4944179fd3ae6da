use Rattle.std.proofs.Common.{◌≡◌, ◌-◌, length, arith, refl, ap, subst, ◌∙◌, length-drop, length-append, Option}
use Rattle.std.specs.Prelude.{IfSome}
use Rattle.ql_edge.specs.Disk.{Files}
use Rattle.lldb_base.specs.declared.batch.Piece.{Piece}
use Rattle.lldb_wal.specs.Parts.{IsPart}
use Rattle.lldb_wal.proofs.ReadParts.{no_part, told_start, told_rest, told_more, told_spoiled, told_end}
use Rattle.lldb_wal.proofs.read_log.read_batch.Goals as goal

pub loop-read-init : goal.loop-read-init
loop-read-init g c = record {
  from = omega (arith, c.new-window.ensures.from, c.new-reading.ensures.at);
  inside = omega (arith, c.new-window.ensures.from, c.new-reading.ensures.at);
  whole = c.new-window.ensures.total;
  part = no_part _ _ _ c.new-window.ensures.bytes;
  count = ap length c.new-reading.ensures.pieces;
  most = omega arith;
  pieces = told_start _ _ _ _ _ c.new-reading.ensures.pieces c.new-reading.ensures.last c.new-reading.ensures.at;
  files = refl;
  same = g.met.V.Shows.same_reflexive _;
  frame = (refl, refl, refl, refl);
  faults = refl;
}

pub returns-in-Err-clause-is : goal.returns-in-Err-clause-is
returns-in-Err-clause-is g c =
    let part = subst (λ (t : Option Files). IfSome t (λ f. IsPart f.1 c.fill.new.self.bytes.items c.fill.new.self.from)) c.loop-read.invariant.files c.in_ok-fill.ensures.part in
    told_spoiled _ _ _ _ _ _ _ _
    (told_rest _ _ _ _ _ _ c.requires.total part c.in_ok-fill.ensures.from c.in_ok-fill.ensures.within
    (omega (arith, c.in_ok-fill.ensures.within, c.fill.new.self.inside, c.in_ok-fill.ensures.total, c.loop-read.invariant.whole))
    (omega (arith, c.in_ok-fill.ensures.enough, c.in_ok-fill.ensures.total, c.loop-read.invariant.whole)) c.rest.ensures)
    c.requires.open c.requires.count (omega (arith, c.loop-read.invariant.count, c.loop-read-test.true)) c.loop-read.invariant.pieces c.in-Err.ensures.err

pub loop-read-preserved : goal.loop-read-preserved
loop-read-preserved g c =
    let part = subst (λ (t : Option Files). IfSome t (λ f. IsPart f.1 c.fill.new.self.bytes.items c.fill.new.self.from)) c.loop-read.invariant.files c.in_ok-fill.ensures.part in
    let few : length c.rest.result.now ≡ length c.fill.new.self.bytes.items - (c.loop-read.reading.at - c.fill.new.self.from) = ap length c.rest.ensures ∙ length-drop _ _ in
    record {
      from = omega (arith, c.in_ok-fill.ensures.from, c.in_ok-add-in-Ok.ensures.at);
      inside = omega (arith, few, c.in_ok-add-in-Ok.ensures.at, c.in-Ok.ensures.whole, c.in_ok-fill.ensures.from, c.in_ok-fill.ensures.within);
      whole = c.in_ok-fill.ensures.total ∙ c.loop-read.invariant.whole;
      part = part;
      count = ap length c.in_ok-add-in-Ok.ensures.pieces ∙ omega (arith, length-append {A = Piece}, c.loop-read.invariant.count);
      most = omega (arith, c.loop-read-test.true);
      pieces = told_more _ _ _ _ _ _ _ _ _ _
          (told_rest _ _ _ _ _ _ c.requires.total part c.in_ok-fill.ensures.from c.in_ok-fill.ensures.within
          (omega (arith, c.in_ok-fill.ensures.within, c.fill.new.self.inside, c.in_ok-fill.ensures.total, c.loop-read.invariant.whole))
          (omega (arith, c.in_ok-fill.ensures.enough, c.in_ok-fill.ensures.total, c.loop-read.invariant.whole)) c.rest.ensures)
          c.loop-read.invariant.pieces c.in-Ok.ensures.ok c.in_ok-add-in-Ok.ensures.pieces c.in_ok-add-in-Ok.ensures.last c.in_ok-add-in-Ok.ensures.at;
      files = c.in_ok-fill.ensures.files ∙ c.loop-read.invariant.files;
      same = g.met.V.Shows.same_transitive _ _ _ c.loop-read.invariant.same c.in_ok-fill.ensures.same;
      frame = (c.in_ok-fill.ensures.frame.0 ∙ c.loop-read.invariant.frame.0, c.in_ok-fill.ensures.frame.1 ∙ c.loop-read.invariant.frame.1, c.in_ok-fill.ensures.frame.2 ∙ c.loop-read.invariant.frame.2, c.in_ok-fill.ensures.frame.3 ∙ c.loop-read.invariant.frame.3);
      faults = c.in_ok-fill.ensures.cause ∙ c.loop-read.invariant.faults;
    }

pub returns-clause-is : goal.returns-clause-is
returns-clause-is g c =
    let part = subst (λ (t : Option Files). IfSome t (λ f. IsPart f.1 c.fill-2.new.self.bytes.items c.fill-2.new.self.from)) c.loop-read.invariant.files c.in_ok-fill-2.ensures.part in
    told_end _ _ _ _ _ _ _ _
    (told_rest _ _ _ _ _ _ c.requires.total part c.in_ok-fill-2.ensures.from c.in_ok-fill-2.ensures.within
    (omega (arith, c.in_ok-fill-2.ensures.within, c.fill-2.new.self.inside, c.in_ok-fill-2.ensures.total, c.loop-read.invariant.whole))
    (omega (arith, c.in_ok-fill-2.ensures.enough, c.in_ok-fill-2.ensures.total, c.loop-read.invariant.whole)) c.rest-2.ensures)
    c.requires.open c.requires.count (omega (arith, c.loop-read.invariant.count, c.loop-read.invariant.most, c.loop-read-test.false)) c.loop-read.invariant.pieces c.judge_end.ensures
