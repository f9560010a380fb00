-- `play::records::next_record` meets its contract: each kind of record is one of the definition.
use native.Mathlib.Omega.{arith}
use Rattle.std.proofs.Common.{rules}
use Rattle.play.proofs.RecordLaws.{size_small, next_cell, next_receipt, next_other}
use Rattle.play.proofs.records.next_record.Goals as goal

pub overflow_add-result : goal.overflow_add-result
overflow_add-result c =
    let t = c.requires.turns_within in
    omega (arith, c.requires.sheet_len_bound, t.fewer, t.turned.place, size_small c.args.sheet.now c.args.p.at c.read_le-size.ensures (λ i. (c.type_inv.sheet i).fits))

pub returns-in-2 : goal.returns-in-2
returns-in-2 c = next_cell c.args.sheet.now c.args.p _ c.read_le-size.ensures c.read_le.ensures (λ i. (c.type_inv.sheet i).fits) c.in-2.is c.put_cell.ensures

pub overflow_add-result-in-5 : goal.overflow_add-result-in-5
overflow_add-result-in-5 c =
    let t = c.requires.turns_within in
    omega (arith, c.requires.sheet_len_bound, t.fewer, t.turned.place, size_small c.args.sheet.now c.args.p.at c.read_le-size.ensures (λ i. (c.type_inv.sheet i).fits))

pub returns-in-5 : goal.returns-in-5
returns-in-5 c = next_receipt c.args.sheet.now c.args.p _ c.read_le-size.ensures c.read_le.ensures (λ i. (c.type_inv.sheet i).fits) c.in-5.is c.put_receipt.ensures

pub returns-in_default : goal.returns-in_default
returns-in_default c = next_other c.args.sheet.now c.args.p _ c.read_le-size.ensures c.read_le.ensures (λ i. (c.type_inv.sheet i).fits) (search rules) (search rules)
