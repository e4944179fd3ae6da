-- What the effect of a statement keeps.
use Rattle.std.specs.Prelude.{◌≡◌, ℕ, Bool, List, Ok}
use Rattle.ql_syntax.specs.declared.statement.Statement.{Statement}
use Rattle.ql_syntax.specs.ReadsBack.{IsReadBack}
use Rattle.ql_rel.specs.declared.db.Db.{Db}
use Rattle.ql_rel.specs.Lawful.{IsLawful}
use Rattle.ql_rel.specs.StatementEffects.{statement_effect}

-- the effect of a statement on a lawful database is lawful again, where what the statement prints is read as it again
pub record EffectLaws : Type 0 where
  pub lawful : (with_names : Bool) (statement : Statement) (db after : Db) (text : List ℕ) → IsLawful db → IsReadBack statement → statement_effect with_names statement db ≡ Ok (text, after) → IsLawful after
