use Rattle.std.proofs.Common.{◌≡◌, ◌<◌, ◌≤◌, length, take, List, ℕ, arith, ◌∙◌, sym}
use Rattle.lldb_wal.specs.Spelling.{log_header}
use Rattle.lldb_wal.proofs.Tidied.{of_length, tidy_self, header_self, durable_rest}
use Rattle.lldb_wal.proofs.Times.{adds_none}
use Rattle.lldb_wal.proofs.tidying.tidy_by.Goals as goal

pub tidy_long-requires-clause-long : goal.tidy_long-requires-clause-long
tidy_long-requires-clause-long g c = of_length (λ (l : List ℕ). length l ≡ c.args.size) (λ (l : List ℕ). 32 ≤ length l) (g.V.Volume.files c.args.volume.now) c.requires.length (λ l long. omega (arith, long, c.if-size-ge-HEAD.true))

pub tidy_long-requires-clause-named : goal.tidy_long-requires-clause-named
tidy_long-requires-clause-named g c = λ is. of_length (λ (l : List ℕ). c.args.front.now ≡ take 16 l) (λ (l : List ℕ). take 16 l ≡ log_header 0) (g.V.Volume.files c.args.volume.now) c.requires.front (λ l front. sym front ∙ c.is_named.ensures is)

pub tidy_short-requires-clause-short : goal.tidy_short-requires-clause-short
tidy_short-requires-clause-short g c = of_length (λ (l : List ℕ). length l ≡ c.args.size) (λ (l : List ℕ). length l < 32) (g.V.Volume.files c.args.volume.now) c.requires.length (λ l long. omega (arith, long, c.if-size-ge-HEAD.false))

pub returns-then-is_header-clause-tidied : goal.returns-then-is_header-clause-tidied
returns-then-is_header-clause-tidied g c = header_self c.args.front.now c.args.size (g.V.Volume.files c.args.volume.now) c.requires.length c.requires.front (c.is_header.ensures.long c.if-is_header.true) (c.is_header.ensures.named c.if-is_header.true)

pub returns-then-is_header-clause-at_rest : goal.returns-then-is_header-clause-at_rest
returns-then-is_header-clause-at_rest g c = durable_rest (g.V.Volume.files c.args.volume.now) (g.V.Volume.files c.args.volume.now) (g.V.Volume.may_leave c.args.volume.now) (header_self c.args.front.now c.args.size (g.V.Volume.files c.args.volume.now) c.requires.length c.requires.front (c.is_header.ensures.long c.if-is_header.true) (c.is_header.ensures.named c.if-is_header.true)) c.requires.durable

pub returns-then-is_header-clause-stops : goal.returns-then-is_header-clause-stops
returns-then-is_header-clause-stops g c = λ d left. tidy_self (g.V.Volume.files c.args.volume.now) (g.V.Volume.may_leave c.args.volume.now) d c.requires.closed c.requires.durable left

pub returns-then-is_header-clause-time : goal.returns-then-is_header-clause-time
returns-then-is_header-clause-time g c = adds_none
