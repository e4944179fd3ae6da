use Rattle.std.proofs.Common.{rules, ◌≡◌, ℕ, List, length, ap, sym}
use Rattle.lldb_wal.specs.Kept.{kept}
use Rattle.lldb_wal.proofs.Passed.{same_magic}
use Rattle.lldb_wal.proofs.filer.WalFiler.into_below.Goals as goal

pub returns-clause-stops : goal.returns-clause-stops
returns-clause-stops g c =
    let long : length c.args.self.magic ≡ 16 = search (rules, c.well_formed) in
    λ most magic rest f sixteen fixed left. (f, left, ap (λ (m : List ℕ). kept m f) (same_magic magic c.args.self.magic rest (g.V.Shows.fixed c.args.self.volume) most c.args.self.limit sixteen long (sym fixed)))

pub returns-clause-since : goal.returns-clause-since
returns-clause-since g c =
    let long : length c.args.self.magic ≡ 16 = search (rules, c.well_formed) in
    λ t n most magic rest f sixteen fixed left. (f, left, ap (λ (m : List ℕ). kept m f) (same_magic magic c.args.self.magic rest (g.V.Shows.fixed c.args.self.volume) most c.args.self.limit sixteen long (sym fixed)))
