-- Names every definition of this crate that computes, so that a worked example opens them all by one name.
use Rattle.block.specs.Encoding.{records, file_of, placed, block_for}
use Rattle.block.specs.Instruction.{source_of, decode_end, decode_set, decode_arg, decode_fact, decode_arith, decode_cell, decode_pay, decode_jump, decode_parts, first_invalid}
use Rattle.block.specs.Key.{address_of, payee_of, key_allowed}
use Rattle.block.specs.Reader.{rises, balances, read_function, read_cell, withCall, read_call, read_end, read_body, read_record, read_from, read_block}
use Rattle.block.specs.Record.{length_allowed, cell_allowed, call_of, argument}
use Rattle.block.specs.Refusal.{number_of, offset_of, verdict_number, verdict_offset}
use Rattle.arith.specs.Computing as arith
use Rattle.wire.specs.Computing as wire

unfoldable pub computing : Unit {0}
unfolding arith.computing wire.computing source_of decode_end decode_set decode_arg decode_fact decode_arith decode_cell decode_pay decode_jump decode_parts first_invalid address_of payee_of key_allowed rises balances read_function read_cell withCall read_call read_end read_body read_record read_from read_block length_allowed cell_allowed call_of argument number_of offset_of verdict_number verdict_offset records file_of placed block_for
computing = tt
