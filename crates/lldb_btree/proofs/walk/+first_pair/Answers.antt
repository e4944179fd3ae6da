use Rattle.std.proofs.Common.{◌-◌, Option, Ok, Err, arith}
use Rattle.lldb_btree.specs.Bounds.{is_ahead}
use Rattle.lldb_btree.specs.declared.node.Pair.{Pair}
use Rattle.lldb_btree.proofs.Ahead.{ahead_falls}
use Rattle.lldb_btree.proofs.Steps.{Looks, Got, NoWalk, walked_here, refuses_fault, refuses_also, no_walk_up, found_up, reads_up}
use Rattle.lldb_btree.proofs.walk.+first_pair.Goals as goal

pub returns-in-Err-clause-refuses : goal.returns-in-Err-clause-refuses
returns-in-Err-clause-refuses g t c =
    let got : Got (g.H.Heap.map_of c.args.heap.now) c.args.handle c.as_slice.result.now = rw c.as_slice.ensures c.in_ok-read.ensures.read in
    let looks : Looks (is_ahead c.args.bound.now) c.as_slice.result.now (Err c.in-Err.fault) = record { leaf = c.in-Err.ensures.leaf; inner = c.in-Err.ensures.inner } in
    rw c.trouble_of.ensures (refuses_fault (Option Pair) (g.H.Heap.map_of c.args.heap.now) c.args.handle c.args.room (is_ahead c.args.bound.now) c.as_slice.result.now c.in-Err.fault got looks)

pub returns-in-Down-clause-found : goal.returns-in-Down-clause-found
returns-in-Down-clause-found g t c =
    let got : Got (g.H.Heap.map_of c.args.heap.now) c.args.handle c.as_slice.result.now = rw c.as_slice.ensures c.in_ok-read.ensures.read in
    let all : Looks (is_ahead c.args.bound.now) c.as_slice.result.now (Ok c.in-Ok.found) = record { leaf = c.in-Ok.ensures.leaf; inner = c.in-Ok.ensures.inner } in
    found_up (g.H.Heap.map_of c.args.heap.now) (g.H.Heap.map_of c.read.new.self) c.args.handle c.args.room (is_ahead c.args.bound.now) (ahead_falls c.args.bound.now) c.as_slice.result.now c.in-Down.child got (rw c.in-Down.is at all) c.read.ensures.map c.first_pair.result c.first_pair.ensures.found

pub returns-in-Down-clause-refuses : goal.returns-in-Down-clause-refuses
returns-in-Down-clause-refuses g t c =
    let got : Got (g.H.Heap.map_of c.args.heap.now) c.args.handle c.as_slice.result.now = rw c.as_slice.ensures c.in_ok-read.ensures.read in
    let all : Looks (is_ahead c.args.bound.now) c.as_slice.result.now (Ok c.in-Ok.found) = record { leaf = c.in-Ok.ensures.leaf; inner = c.in-Ok.ensures.inner } in
    refuses_also (NoWalk (g.H.Heap.map_of c.read.new.self) c.in-Down.child (c.args.room - 1)) (NoWalk (g.H.Heap.map_of c.args.heap.now) c.args.handle c.args.room) c.first_pair.result
    (no_walk_up (g.H.Heap.map_of c.args.heap.now) (g.H.Heap.map_of c.read.new.self) c.args.handle c.args.room (is_ahead c.args.bound.now) (ahead_falls c.args.bound.now) c.as_slice.result.now c.in-Down.child got (rw c.in-Down.is at all) c.read.ensures.map)
    c.first_pair.ensures.refuses

pub returns-in-Down-clause-reads : goal.returns-in-Down-clause-reads
returns-in-Down-clause-reads g t c =
    let got : Got (g.H.Heap.map_of c.args.heap.now) c.args.handle c.as_slice.result.now = rw c.as_slice.ensures c.in_ok-read.ensures.read in
    let all : Looks (is_ahead c.args.bound.now) c.as_slice.result.now (Ok c.in-Ok.found) = record { leaf = c.in-Ok.ensures.leaf; inner = c.in-Ok.ensures.inner } in
    reads_up (g.H.Heap.map_of c.args.heap.now) (g.H.Heap.map_of c.read.new.self) c.args.handle c.args.room (is_ahead c.args.bound.now) (ahead_falls c.args.bound.now) c.as_slice.result.now c.in-Down.child got (rw c.in-Down.is at all) c.read.ensures.map (g.H.Heap.reads_of c.args.heap.now) (g.H.Heap.reads_of c.read.new.self) (g.H.Heap.reads_of c.first_pair.new.heap) (omega (arith, c.in_ok-read.ensures.reads)) c.first_pair.ensures.reads

pub returns-in-Here-clause-found : goal.returns-in-Here-clause-found
returns-in-Here-clause-found g t c =
    let got : Got (g.H.Heap.map_of c.args.heap.now) c.args.handle c.as_slice.result.now = rw c.as_slice.ensures c.in_ok-read.ensures.read in
    let all : Looks (is_ahead c.args.bound.now) c.as_slice.result.now (Ok c.in-Ok.found) = record { leaf = c.in-Ok.ensures.leaf; inner = c.in-Ok.ensures.inner } in
    λ m d least p w. (walked_here (g.H.Heap.map_of c.args.heap.now) c.args.handle c.args.room (is_ahead c.args.bound.now) c.as_slice.result.now c.in-Here.answer got (rw c.in-Here.is at all) m d least p w).0
