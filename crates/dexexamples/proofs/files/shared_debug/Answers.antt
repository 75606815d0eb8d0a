use Rattle.dexexamples.proofs.Common.{refl, mentions, symbols_of, depth, in_class_order, bytes_of, ushort, uint, opcode_of, opcode_runs, code_bytes, debug_bytes, class_data_bytes, weight, unsigned_file, type_list_section, annotation_section, annotation_offsets, array_section, string_section, debug_section, code_section, class_data_section, set_section, set_offsets, ref_list_section, directory_section}
use Rattle.dexexamples.proofs.files.shared_debug.Goals as goal

pub returns-clause-twice : goal.returns-clause-twice
unfolding unsigned_file type_list_section annotation_section annotation_offsets array_section string_section debug_section code_section class_data_section set_section set_offsets ref_list_section directory_section mentions symbols_of in_class_order depth code_bytes debug_bytes class_data_bytes ushort uint bytes_of opcode_of opcode_runs
returns-clause-twice c = refl

pub returns-clause-first_use : goal.returns-clause-first_use
unfolding unsigned_file type_list_section annotation_section annotation_offsets array_section string_section debug_section code_section class_data_section set_section set_offsets ref_list_section directory_section mentions symbols_of in_class_order depth code_bytes debug_bytes class_data_bytes ushort uint bytes_of opcode_of opcode_runs
returns-clause-first_use c = refl

pub returns-clause-first_use_weight : goal.returns-clause-first_use_weight
unfolding weight mentions symbols_of
returns-clause-first_use_weight c = refl
