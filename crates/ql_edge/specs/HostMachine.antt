-- What the host's machine tells of its files: their name alone.
use Rattle.std.specs.Prelude.{ℕ, List, Option, None, option_map, refl}
use Rattle.std.proofs.Common.{inl, arith}
use Rattle.ql_edge.specs.Disk.{Files}
use Rattle.ql_edge.specs.Stops.{IsSameBut}
use Rattle.ql_edge.specs.declared.host.HostMachine.{HostMachine}

-- the attached name
abbrev pub name_of : HostMachine → Option (List ℕ)
name_of m = option_map (λ f. f.name) m.files

-- nothing is told of any two states
pub untold : IsSameBut {C = Files} {H = Option Files} None None (λ _. ⊥) (λ _. ⊥) 0 0 (λ _ _ _. ⊥) (λ _ _ _. ⊥) None None
untold = record { held = refl; stops = λ c left. left; stops_back = λ c left. left; moments = record { later = omega arith; keeps = λ t n c past. past; adds = λ t n c early now. inl now } }
