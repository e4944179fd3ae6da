use Rattle.std.proofs.Common.{◌-◌, ℕ, Ok, Err, arith}
use Rattle.lldb_btree.specs.declared.bound.Bound.TheVariants.{Start}
use Rattle.lldb_btree.specs.Bounds.{is_ahead}
use Rattle.lldb_btree.proofs.Ahead.{ahead_falls}
use Rattle.lldb_btree.proofs.Steps.{Looks, Got, NoWalk, walked_here, refuses_fault, refuses_exit, no_walk_up, levels_up, reads_up}
use Rattle.lldb_btree.proofs.walk.+levels_under.Goals as goal

pub returns-in-Err-clause-refuses : goal.returns-in-Err-clause-refuses
returns-in-Err-clause-refuses g t c =
    let got : Got (g.H.Heap.map_of c.args.heap.now) c.args.handle c.as_slice.result.now = rw c.as_slice.ensures c.in_ok-read.ensures.read in
    let looks : Looks (is_ahead Start) c.as_slice.result.now (Err c.in-Err.fault) = record { leaf = c.in-Err.ensures.leaf; inner = c.in-Err.ensures.inner } in
    rw c.trouble_of.ensures (refuses_fault ℕ (g.H.Heap.map_of c.args.heap.now) c.args.handle c.args.room (is_ahead Start) c.as_slice.result.now c.in-Err.fault got looks)

pub returns-in-Down-clause-levels : goal.returns-in-Down-clause-levels
returns-in-Down-clause-levels g t c =
    let got : Got (g.H.Heap.map_of c.args.heap.now) c.args.handle c.as_slice.result.now = rw c.as_slice.ensures c.in_ok-read.ensures.read in
    let all : Looks (is_ahead Start) c.as_slice.result.now (Ok c.in-Ok.found) = record { leaf = c.in-Ok.ensures.leaf; inner = c.in-Ok.ensures.inner } in
    levels_up (g.H.Heap.map_of c.args.heap.now) (g.H.Heap.map_of c.read.new.self) c.args.handle c.args.room (is_ahead Start) (ahead_falls Start) c.as_slice.result.now c.in-Down.child got (rw c.in-Down.is at all) c.read.ensures.map c.in_ok-levels-in-Down.levels c.in_ok-levels-in-Down.ensures.levels

pub returns-in-Down-clause-reads : goal.returns-in-Down-clause-reads
returns-in-Down-clause-reads g t c =
    let got : Got (g.H.Heap.map_of c.args.heap.now) c.args.handle c.as_slice.result.now = rw c.as_slice.ensures c.in_ok-read.ensures.read in
    let all : Looks (is_ahead Start) c.as_slice.result.now (Ok c.in-Ok.found) = record { leaf = c.in-Ok.ensures.leaf; inner = c.in-Ok.ensures.inner } in
    reads_up (g.H.Heap.map_of c.args.heap.now) (g.H.Heap.map_of c.read.new.self) c.args.handle c.args.room (is_ahead Start) (ahead_falls Start) c.as_slice.result.now c.in-Down.child got (rw c.in-Down.is at all) c.read.ensures.map (g.H.Heap.reads_of c.args.heap.now) (g.H.Heap.reads_of c.read.new.self) (g.H.Heap.reads_of c.levels_under.new.heap) (omega (arith, c.in_ok-read.ensures.reads)) c.levels_under.ensures.reads

pub returns-in_err-levels-in-Down-clause-refuses : goal.returns-in_err-levels-in-Down-clause-refuses
returns-in_err-levels-in-Down-clause-refuses g t c =
    let got : Got (g.H.Heap.map_of c.args.heap.now) c.args.handle c.as_slice.result.now = rw c.as_slice.ensures c.in_ok-read.ensures.read in
    let all : Looks (is_ahead Start) c.as_slice.result.now (Ok c.in-Ok.found) = record { leaf = c.in-Ok.ensures.leaf; inner = c.in-Ok.ensures.inner } in
    refuses_exit ℕ ℕ (NoWalk (g.H.Heap.map_of c.read.new.self) c.in-Down.child (c.args.room - 1)) (NoWalk (g.H.Heap.map_of c.args.heap.now) c.args.handle c.args.room) c.from_residual-in_err-levels-in-Down.result c.in_err-levels-in-Down.field-0.0 c.from_residual-in_err-levels-in-Down.ensures.1
    (no_walk_up (g.H.Heap.map_of c.args.heap.now) (g.H.Heap.map_of c.read.new.self) c.args.handle c.args.room (is_ahead Start) (ahead_falls Start) c.as_slice.result.now c.in-Down.child got (rw c.in-Down.is at all) c.read.ensures.map)
    c.in_err-levels-in-Down.ensures.refuses

pub returns-in_err-levels-in-Down-clause-reads : goal.returns-in_err-levels-in-Down-clause-reads
returns-in_err-levels-in-Down-clause-reads g t c =
    let got : Got (g.H.Heap.map_of c.args.heap.now) c.args.handle c.as_slice.result.now = rw c.as_slice.ensures c.in_ok-read.ensures.read in
    let all : Looks (is_ahead Start) c.as_slice.result.now (Ok c.in-Ok.found) = record { leaf = c.in-Ok.ensures.leaf; inner = c.in-Ok.ensures.inner } in
    reads_up (g.H.Heap.map_of c.args.heap.now) (g.H.Heap.map_of c.read.new.self) c.args.handle c.args.room (is_ahead Start) (ahead_falls Start) c.as_slice.result.now c.in-Down.child got (rw c.in-Down.is at all) c.read.ensures.map (g.H.Heap.reads_of c.args.heap.now) (g.H.Heap.reads_of c.read.new.self) (g.H.Heap.reads_of c.levels_under.new.heap) (omega (arith, c.in_ok-read.ensures.reads)) c.levels_under.ensures.reads

pub returns-clause-levels : goal.returns-clause-levels
returns-clause-levels g t c =
    let got : Got (g.H.Heap.map_of c.args.heap.now) c.args.handle c.as_slice.result.now = rw c.as_slice.ensures c.in_ok-read.ensures.read in
    let all : Looks (is_ahead Start) c.as_slice.result.now (Ok c.in-Ok.found) = record { leaf = c.in-Ok.ensures.leaf; inner = c.in-Ok.ensures.inner } in
    λ m d least p w. omega (arith, (walked_here (g.H.Heap.map_of c.args.heap.now) c.args.handle c.args.room (is_ahead Start) c.as_slice.result.now c.in-Here.field-0 got (rw c.in-Here.is at all) m d least p w).1)
