use Rattle.std.proofs.Common.{take, ap}
use Rattle.ql_edge.specs.MemDisk.{disk_first, disk_events}
use Rattle.ql_edge.proofs.Plays.{images_answered}
use Rattle.ql_edge.proofs.mem_disk.MemDisk.image.Goals as goal

pub returns-clause-left : goal.returns-clause-left
returns-clause-left c =
    images_answered c.make_image.result c.args.pick c.args.moment (disk_first c.args.self.now) (disk_events c.args.self.now) _ (ap (take c.args.moment) c.as_slice.ensures) c.requires.moment c.args.self.now.data_valid c.args.self.now.log_valid
    c.make_image.ensures.on_data c.make_image.ensures.on_log c.make_image.ensures.shown
