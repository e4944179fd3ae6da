use Rattle.std.proofs.Common.{map, ◌∙◌, ap}
use Rattle.lldb_btree.specs.Bounds.{is_ahead}
use Rattle.lldb_btree.specs.Nodes.{child_entry, body}
use Rattle.lldb_btree.proofs.Lengths.{many_of}
use Rattle.lldb_btree.proofs.Looking.{in_inner}
use Rattle.lldb_btree.proofs.Placing.{way_found, wayless_seek}
use Rattle.lldb_btree.proofs.Spelling.{children_fit, child_fits}
use Rattle.lldb_btree.proofs.set.way.Goals as goal

pub returns-in_err-rest : goal.returns-in_err-rest
returns-in_err-rest c = λ children fits some len is. absurd (wayless_seek c.args.count c.args.bytes.now c.in_err-rest.ensures children (children_fit children fits) len is)

pub returns-in_err-tail : goal.returns-in_err-tail
returns-in_err-tail c = λ children fits some len is.
    let found = c.in_ok-rest.ensures (map child_entry children) (children_fit children fits) (many_of child_entry children ∙ len) is in
    let f = in_inner (is_ahead c.args.from.now) children fits some in
    absurd (c.in_err-tail.ensures.whole (child_entry f.child) (body f.rest) (child_fits f.child f.fits) (found.0 ∙ ap body f.entries))

pub returns-in_err-handle : goal.returns-in_err-handle
returns-in_err-handle c = λ children fits some len is.
    let found = c.in_ok-rest.ensures (map child_entry children) (children_fit children fits) (many_of child_entry children ∙ len) is in
    let f = in_inner (is_ahead c.args.from.now) children fits some in
    let w = c.in_ok-tail.ensures.whole (child_entry f.child) (body f.rest) (child_fits f.child f.fits) (found.0 ∙ ap body f.entries) in
    let none = c.in_err-handle.ensures f.child.handle f.fits.1 w.1 in
    absurd (cc (none))

pub returns : goal.returns
returns c = λ children fits some len is.
    let found = c.in_ok-rest.ensures (map child_entry children) (children_fit children fits) (many_of child_entry children ∙ len) is in
    way_found (is_ahead c.args.from.now) children c.in_ok-rest.field-0-1 c.in_ok-handle.handle c.args.bytes.now c.in_ok-rest.rest.now c.in_ok-tail.field-0-0.now c.in_ok-tail.tail.now c.in_ok-tail.back.now c.front_of.result.now fits some is found c.in_ok-tail.ensures.whole
    (λ h low tail. let one = c.in_ok-handle.ensures h low tail in cc (one))
    c.front_of.ensures
