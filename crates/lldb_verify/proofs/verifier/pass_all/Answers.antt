use Rattle.std.proofs.Common.{ℕ, ◌%◌, ◌<◌, refl, sym, ◌∙◌, ap, subst}
use Rattle.lldb_verify.proofs.Verified.{odd_short, odd_part, odd_passed, none_told}
use Rattle.lldb_verify.proofs.verifier.pass_all.Goals as goal

pub returns-then-bytes-eq0-clause-passed : goal.returns-then-bytes-eq0-clause-passed
returns-then-bytes-eq0-clause-passed g c =
    none_told (g.F.Filer.content c.args.filer.now) (g.F.Filer.size_of c.args.filer.now) c.args.scratch.now ((goal.FaultLog-dyn g (c.args.log.now.vtable, c.args.log.now.value)).list c.args.log.now.value) ((goal.FaultLog-dyn g (c.args.log.now.vtable, c.args.log.now.value)).bound c.args.log.now.value) (record { atoms = 0; used = 0; relocated = 0; free = 0 }) (g.met.F.Filer.told_size c.args.filer.now c.requires.sound) (sym c.size-bytes.ensures ∙ c.if-bytes-eq0.true) c.requires.clear c.requires.empty refl

pub returns-then-bytes-lt128-clause-passed : goal.returns-then-bytes-lt128-clause-passed
returns-then-bytes-lt128-clause-passed g c =
    odd_passed (g.F.Filer.content c.args.filer.now) c.size-bytes.result (g.F.Filer.size_of c.args.filer.now) c.args.scratch.now ((goal.FaultLog-dyn g (c.bad_length.new.log.vtable, c.bad_length.new.log.value)).list c.bad_length.new.log.value) ((goal.FaultLog-dyn g (c.args.log.now.vtable, c.args.log.now.value)).bound c.args.log.now.value) c.bad_length.result c.size-bytes.ensures (odd_short (g.F.Filer.content c.args.filer.now) (g.F.Filer.size_of c.args.filer.now) (g.met.F.Filer.told_size c.args.filer.now c.requires.sound) (λ none. c.if-bytes-eq0.false (c.size-bytes.ensures ∙ none)) (subst (λ (n : ℕ). n < 128) c.size-bytes.ensures c.if-bytes-lt128.true)) c.bad_length.ensures.told

pub returns-then-bytes-ne0-clause-passed : goal.returns-then-bytes-ne0-clause-passed
returns-then-bytes-ne0-clause-passed g c =
    odd_passed (g.F.Filer.content c.args.filer.now) c.size-bytes.result (g.F.Filer.size_of c.args.filer.now) c.args.scratch.now ((goal.FaultLog-dyn g (c.bad_length-then-bytes-ne0.new.log.vtable, c.bad_length-then-bytes-ne0.new.log.value)).list c.bad_length-then-bytes-ne0.new.log.value) ((goal.FaultLog-dyn g (c.args.log.now.vtable, c.args.log.now.value)).bound c.args.log.now.value) c.bad_length-then-bytes-ne0.result c.size-bytes.ensures (odd_part (g.F.Filer.content c.args.filer.now) (g.F.Filer.size_of c.args.filer.now) (g.met.F.Filer.told_size c.args.filer.now c.requires.sound) (λ none. c.if-bytes-eq0.false (c.size-bytes.ensures ∙ none)) (λ none. c.if-bytes-ne0.true (ap (λ (n : ℕ). n % 16) c.size-bytes.ensures ∙ none))) c.bad_length-then-bytes-ne0.ensures.told
