-- What two files in memory and the record of their calls are.
use Rattle.std.specs.Prelude.{List}
use Rattle.ql_edge.specs.Disk.{Files}
use Rattle.ql_edge.specs.declared.event.Event.{Event}
use Rattle.ql_edge.specs.declared.mem_disk.MemDisk.{MemDisk}

-- the two files as a read gives them
abbrev pub disk_files : MemDisk → Files
disk_files d = (d.data_bytes, d.log_bytes)

-- the two files as they began
abbrev pub disk_first : MemDisk → Files
disk_first d = (d.first_data, d.first_log)

-- the device calls so far
abbrev pub disk_events : MemDisk → List Event
disk_events d = d.events
