use Rattle.std.proofs.Common.{sym, ap, ◌∙◌, arith}
use Rattle.lldb_wal.specs.Fields.{may_begin}
use Rattle.lldb_wal.proofs.Spoiled.{no_place, not_begun, no_length, not_held, not_whole}
use Rattle.lldb_wal.proofs.fields.read_piece.Goals as goal

pub returns-then-bytes-lt8-clause-err : goal.returns-then-bytes-lt8-clause-err
returns-then-bytes-lt8-clause-err c = no_place _ _ 0 _ c.if-bytes-lt8.true

pub returns-then-not-begins-clause-err : goal.returns-then-not-begins-clause-err
returns-then-not-begins-clause-err c = not_begun _ _ 0 _ _ _ c.u64_at-place.ensures c.begins.ensures c.if-not-begins.true

pub returns-then-bytes-lt12-clause-err : goal.returns-then-bytes-lt12-clause-err
returns-then-bytes-lt12-clause-err c =
    no_length _ _ 0 _ (record { whole = c.if-bytes-lt8.false; kept = ap (may_begin _ _) (sym c.u64_at-place.ensures) ∙ sym c.begins.ensures ∙ c.if-not-begins.false }) c.if-bytes-lt12.true

pub returns-then-not-holds-clause-err : goal.returns-then-not-holds-clause-err
returns-then-not-holds-clause-err c =
    not_held _ _ 0 _ _ _ _ (record { whole = c.if-bytes-lt8.false; kept = ap (may_begin _ _) (sym c.u64_at-place.ensures) ∙ sym c.begins.ensures ∙ c.if-not-begins.false })
    c.u64_at-place.ensures c.u32_at-count.ensures c.holds.ensures c.if-not-holds.true

pub returns-then-rest-count-clause-err : goal.returns-then-rest-count-clause-err
returns-then-rest-count-clause-err c =
    not_whole _ _ 0 _ _ _ _ (record { whole = c.if-bytes-lt8.false; kept = ap (may_begin _ _) (sym c.u64_at-place.ensures) ∙ sym c.begins.ensures ∙ c.if-not-begins.false })
    c.if-bytes-lt12.false c.u64_at-place.ensures c.u32_at-count.ensures c.holds.ensures c.if-not-holds.false (omega (arith, c.if-rest-count.true, c.split_at.ensures.back_len))
