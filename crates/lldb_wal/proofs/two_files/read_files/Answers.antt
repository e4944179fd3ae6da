use Rattle.std.proofs.Common.{◌≡◌, take, Option, subst, ◌∙◌}
use Rattle.std.specs.Prelude.{IfSome}
use Rattle.ql_edge.specs.Disk.{Files}
use Rattle.lldb_wal.specs.Log.{IsLog}
use Rattle.lldb_wal.proofs.ReadWhole.{told_decided, told_by_log}
use Rattle.lldb_wal.proofs.two_files.read_files.Goals as goal

pub returns-in-Some-clause-found : goal.returns-in-Some-clause-found
returns-in-Some-clause-found g c =
    told_decided _ _ _ _ _ _ c.in_ok-data.ensures.length c.in_ok-data.ensures.bytes
    (subst (λ (t : Option Files). IfSome t (λ f. c.in_ok-log.log.bytes.items ≡ take 32 f.1)) c.in_ok-data.ensures.files c.in_ok-log.ensures.bytes)
    (rw (c.deref.ensures.value, c.deref-2.ensures.value) at c.in-Some.ensures.decided)

pub returns-clause-found : goal.returns-clause-found
returns-clause-found g c =
    told_by_log _ _ _ _ _ _ c.in_ok-data.ensures.length c.in_ok-data.ensures.bytes
    (rw (c.deref.ensures.value) at c.in-None.ensures.left)
    (subst (λ (t : Option Files). IfSome t (λ f. IsLog c.in_ok-data.data.length f.1 c.in_ok-state-in-None.state)) (c.in_ok-log.ensures.files ∙ c.in_ok-data.ensures.files) c.in_ok-state-in-None.ensures.is)
    c.into_opening.ensures

pub returns-in_err-state-in-None-clause-same : goal.returns-in_err-state-in-None-clause-same
returns-in_err-state-in-None-clause-same g c =
    g.met.V.Shows.same_transitive _ _ _ (g.met.V.Shows.same_transitive _ _ _ c.in_ok-data.ensures.same c.in_ok-log.ensures.same) c.in_err-state-in-None.ensures.same

pub returns-clause-same : goal.returns-clause-same
returns-clause-same g c =
    g.met.V.Shows.same_transitive _ _ _ (g.met.V.Shows.same_transitive _ _ _ c.in_ok-data.ensures.same c.in_ok-log.ensures.same) c.in_ok-state-in-None.ensures.same
