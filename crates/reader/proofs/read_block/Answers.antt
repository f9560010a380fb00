-- `reader::read_block` meets its contract: its numbers and its table stand for the block read so far, and each turn is one of the definition.
use mathlib.Core.Path.{ap, ◌∙◌}
use lib.ListN.{set}
use Prim.Native.Nat.{◌<◌}
use Rattle.wire.specs.Bytes.{repeated}
use Rattle.wire.proofs.ListLaws.{to_the_end}
use Rattle.reader.specs.Layout.{layout_of}
use Rattle.reader.proofs.ReadingLaws.{Advanced, long_file, handed_on, rest_size, reading_start, reading_more, reading_refused, going_room, going_function, reading_end}
use Rattle.reader.proofs.read_block.Goals.{In-Function, In-More}
use Rattle.reader.proofs.read_block.Goals as goal

pub returns-then-file-gt-MAX_BYTES : goal.returns-then-file-gt-MAX_BYTES
unfolding layout_of
returns-then-file-gt-MAX_BYTES c = ap layout_of (long_file c.args.file.now c.if-file-gt-MAX_BYTES.true)

pub loop-next-init : goal.loop-next-init
unfolding repeated
loop-next-init c = reading_start c.args.file.now c.default-p.result c.default-table.result c.if-file-gt-MAX_BYTES.false c.default-p.ensures c.default-table.ensures

pub returns-in_err-next : goal.returns-in_err-next
unfolding layout_of
returns-in_err-next c =
    let l = c.loop-next in
    let s = l.invariant.stands in
    handed_on c.from_residual.result _ c.from_residual.ensures.1
    ∙ reading_refused c.args.file.now l.table l.p l.invariant _
    (rw (to_the_end c.args.file.now l.p.at, rest_size c.args.file.now l.p.at s.reached.within, c.in_err-next.was) at (c.read_record.ensures l.invariant.b s.holds))

-- After a record that is no function.
more : (c : In-More) → Advanced c.args.file.now c.loop-next.table c.loop-next.p c.in-More.next
more c =
    let l = c.loop-next in
    let s = l.invariant.stands in
    reading_more c.args.file.now l.table l.p l.invariant c.in-More.next
    (rw (to_the_end c.args.file.now l.p.at, rest_size c.args.file.now l.p.at s.reached.within, c.in_ok-next.was, c.in-More.is) at (c.read_record.ensures l.invariant.b s.holds))

pub loop-next-smaller-in-More : goal.loop-next-smaller-in-More
loop-next-smaller-in-More c = (more c).less

pub loop-next-preserved-in-More : goal.loop-next-preserved-in-More
loop-next-preserved-in-More c = (more c).going

-- After a function: its numbers are stored where there is room.
room : (c : In-Function) → c.loop-next.p.functions < 64
room c =
    let l = c.loop-next in
    let s = l.invariant.stands in
    let f = c.in-Function in
    going_room c.args.file.now l.table l.p l.invariant f.next f.function
    (rw (to_the_end c.args.file.now l.p.at, rest_size c.args.file.now l.p.at s.reached.within, c.in_ok-next.was, f.is) at (c.read_record.ensures l.invariant.b s.holds))

pub bounds-table-p : goal.bounds-table-p
bounds-table-p c = room c

with_function : (c : In-Function)
    → Advanced c.args.file.now
    (set c.loop-next.table c.loop-next.p.functions c.in-Function.function)
    c.loop-next.p c.in-Function.next
with_function c =
    let l = c.loop-next in
    let s = l.invariant.stands in
    let f = c.in-Function in
    going_function c.args.file.now l.table l.p l.invariant f.next f.function
    (rw (to_the_end c.args.file.now l.p.at, rest_size c.args.file.now l.p.at s.reached.within, c.in_ok-next.was, f.is) at (c.read_record.ensures l.invariant.b s.holds))

pub loop-next-smaller : goal.loop-next-smaller
loop-next-smaller c = (with_function c).less

pub loop-next-preserved : goal.loop-next-preserved
loop-next-preserved c = (with_function c).going

pub returns-in-End : goal.returns-in-End
returns-in-End c =
    let l = c.loop-next in
    let s = l.invariant.stands in
    reading_end c.args.file.now l.table l.p l.invariant
    (rw (to_the_end c.args.file.now l.p.at, rest_size c.args.file.now l.p.at s.reached.within, c.in_ok-next.was, c.in-End.is) at (c.read_record.ensures l.invariant.b s.holds))
