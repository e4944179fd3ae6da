use Rattle.std.proofs.Common.{◌≡◌, IfSome}
use Rattle.lldb_atoms.specs.Lists.{list_head}
use Rattle.lldb_alloc.proofs.Joins.{list_read, list_small}
use Rattle.lldb_alloc.proofs.chain.read_list.Goals as goal

pub returns-clause-list : goal.returns-clause-list
returns-clause-list g c = list_read (g.F.Filer.content c.args.filer.now) c.read_bytes.new.out c.read_u64-first.result c.args.class c.in_ok-read_bytes.ensures.read c.read_u64-first.ensures

pub returns-then-first-ge72057594037927936-clause-refuses : goal.returns-then-first-ge72057594037927936-clause-refuses
returns-then-first-ge72057594037927936-clause-refuses g c =
    let list : IfSome (g.F.Filer.content c.args.filer.now) (λ b. list_head b c.args.class ≡ c.read_u64-first.result) = list_read (g.F.Filer.content c.args.filer.now) c.read_bytes.new.out c.read_u64-first.result c.args.class c.in_ok-read_bytes.ensures.read c.read_u64-first.ensures in
    list_small (g.F.Filer.content c.args.filer.now) c.read_u64-first.result c.args.class (g.F.Filer.size_of c.args.filer.now) c.requires.class (g.met.F.Filer.told_size c.args.filer.now c.requires.sound) c.requires.most list c.if-first-ge72057594037927936.true
