use Rattle.ql_exec.proofs.LawfulEffects.{effect_lawful}
use Rattle.ql_exec.proofs.laws.effect_laws.Goals as goal

pub returns : goal.returns
returns c = record { lawful = effect_lawful c.form_laws.ensures c.made_laws.ensures.parts c.made_laws.ensures.made }
