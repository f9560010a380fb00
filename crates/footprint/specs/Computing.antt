-- Names every definition of this crate that computes, so that a worked example opens them all by one name.
use Rattle.footprint.specs.Access.{entry_accesses, pay_accesses, accesses}
use Rattle.block.specs.Naming.{source_value, function_of}
use Rattle.footprint.specs.Conflict.{member, apart, strong_swap, conflict_bits}
use Rattle.footprint.specs.Plan.{entry_word, code_words, call_plan, plans, table_words, opening_value, room_enough, unprepared, prepare_analysed, prepare_read, prepared_of}
use Rattle.footprint.specs.Sets.{merge, merge_all, code_accesses, function_sets, read_set, write_set}
use Rattle.footprint.specs.Table.{insert_key, insert_keys, cell_number, analyse}
use Rattle.block.specs.Computing as block

unfoldable pub computing : Unit {0}
unfolding block.computing source_value entry_accesses pay_accesses accesses member apart strong_swap conflict_bits entry_word code_words call_plan plans table_words opening_value room_enough unprepared prepare_analysed prepare_read prepared_of merge merge_all code_accesses function_of function_sets read_set write_set insert_key insert_keys cell_number analyse
computing = tt
