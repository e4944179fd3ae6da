use Rattle.lldb_verify.proofs.Meets.{list_read}
use Rattle.lldb_verify.proofs.lists.read_list.Goals as goal

pub returns-clause-list : goal.returns-clause-list
returns-clause-list g c = list_read (g.F.Filer.content c.args.filer.now) c.read_at.new.out c.read_u64.result c.args.class c.in_ok-read_at.ensures.read c.read_u64.ensures
