-- Levels that are closed one after another.
use Rattle.std.proofs.Common.{◌≡◌, ◌<◌, ◌≤◌, List, [], ◌∷◌, drop, map, length, Option, Some, refl, sym, ap, ◌∙◌, arith}
use Rattle.ql_rel.specs.declared.db.Db.{Db}
use Rattle.ql_rel.specs.Rels.{saved_last}
use Rattle.ql_shell.specs.Goings.{IsKeptBy, KeepsBelow, Stands, outermost}
use Rattle.ql_rel.specs.Sessions.{State}

kept_by : (kept db : Db) (saved : List Db) (held : Option Db) → held ≡ Some db → kept ≡ outermost db saved → IsKeptBy kept held saved
kept_by kept db [] held e k = e ∙ ap Some (sym k)
kept_by kept db (d ∷ outer) held e k = k

pub stands_kept : (held : Option Db) (levels : List (Option Db)) (st : State) → Stands held levels st → KeepsBelow st.kept held levels
stands_kept held levels st h = record { saved = st.saved; are = h.saved; is = kept_by st.kept st.db st.saved held h.db h.kept }

keeps_by : (kept : Db) (saved : List Db) (held held' : Option Db) (levels levels' : List (Option Db)) → levels ≡ map (λ (d : Db). Some d) saved → IsKeptBy kept held saved → 0 < length levels → held' ≡ saved_last levels → levels' ≡ drop 1 levels → KeepsBelow kept held' levels'
keeps_by kept [] held held' levels levels' e k l h d = absurd (omega (arith, l, ap length e))
keeps_by kept (x ∷ outer) held held' levels levels' e k l h d = record { saved = outer; are = d ∙ ap (λ (z : List (Option Db)). drop 1 z) e; is = kept_by kept x outer held' (h ∙ ap saved_last e) k }

pub keeps_on : (kept : Db) (held held' : Option Db) (levels levels' : List (Option Db)) → KeepsBelow kept held levels → 0 < length levels → held' ≡ saved_last levels → levels' ≡ drop 1 levels → KeepsBelow kept held' levels'
keeps_on kept held held' levels levels' u l h d = keeps_by kept u.saved held held' levels levels' u.are u.is l h d

ended_by : (kept : Db) (saved : List Db) (held : Option Db) (levels : List (Option Db)) → levels ≡ map (λ (d : Db). Some d) saved → IsKeptBy kept held saved → length levels ≤ 0 → held ≡ Some kept
ended_by kept [] held levels e k l = k
ended_by kept (x ∷ outer) held levels e k l = absurd (omega (arith, l, ap length e))

pub keeps_end : (kept : Db) (held : Option Db) (levels : List (Option Db)) → KeepsBelow kept held levels → length levels ≤ 0 → held ≡ Some kept
keeps_end kept held levels u l = ended_by kept u.saved held levels u.are u.is l

-- a database that is kept stays so where the levels stay, and where no level is open what is held
pub kept_inside : (st : State) (held held' : Option Db) (levels levels' : List (Option Db)) → Stands held levels st → levels' ≡ levels → (levels ≡ [] → held' ≡ held) → KeepsBelow st.kept held' levels'
kept_inside st held held' levels levels' h l d = record { saved = st.saved; are = l ∙ h.saved; is = inside st.kept st.db st.saved h.kept (λ e. d (h.saved ∙ ap (λ (z : List Db). map (λ (o : Db). Some o) z) e) ∙ h.db) }
  where
    inside : (kept db : Db) (saved : List Db) → kept ≡ outermost db saved → (saved ≡ [] → held' ≡ Some db) → IsKeptBy kept held' saved
    inside kept db [] k d = d refl ∙ ap Some (sym k)
    inside kept db (x ∷ outer) k d = k
