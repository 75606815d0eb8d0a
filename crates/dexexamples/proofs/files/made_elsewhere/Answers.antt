use Rattle.dexexamples.proofs.Common.{refl, mentions, symbols_of, depth, in_class_order, bytes_of, ushort, uint, opcode_of, opcode_runs, code_bytes, debug_bytes, class_data_bytes, weight, unsigned_file, type_list_section, annotation_section, annotation_offsets, array_section, string_section, debug_section, code_section, class_data_section, set_section, set_offsets, ref_list_section, directory_section}
use Rattle.dexexamples.proofs.files.made_elsewhere.Goals as goal

pub returns-clause-varied : goal.returns-clause-varied
unfolding unsigned_file type_list_section annotation_section annotation_offsets array_section string_section debug_section code_section class_data_section set_section set_offsets ref_list_section directory_section mentions symbols_of in_class_order depth code_bytes debug_bytes class_data_bytes ushort uint bytes_of opcode_of opcode_runs weight
returns-clause-varied c = refl

pub returns-clause-varied_weight : goal.returns-clause-varied_weight
unfolding unsigned_file type_list_section annotation_section annotation_offsets array_section string_section debug_section code_section class_data_section set_section set_offsets ref_list_section directory_section mentions symbols_of in_class_order depth code_bytes debug_bytes class_data_bytes ushort uint bytes_of opcode_of opcode_runs weight
returns-clause-varied_weight c = refl

pub returns-clause-valued : goal.returns-clause-valued
unfolding unsigned_file type_list_section annotation_section annotation_offsets array_section string_section debug_section code_section class_data_section set_section set_offsets ref_list_section directory_section mentions symbols_of in_class_order depth code_bytes debug_bytes class_data_bytes ushort uint bytes_of opcode_of opcode_runs weight
returns-clause-valued c = refl

pub returns-clause-varied_stripped : goal.returns-clause-varied_stripped
unfolding unsigned_file type_list_section annotation_section annotation_offsets array_section string_section debug_section code_section class_data_section set_section set_offsets ref_list_section directory_section mentions symbols_of in_class_order depth code_bytes debug_bytes class_data_bytes ushort uint bytes_of opcode_of opcode_runs weight
returns-clause-varied_stripped c = refl

pub returns-clause-valued_weight : goal.returns-clause-valued_weight
unfolding unsigned_file type_list_section annotation_section annotation_offsets array_section string_section debug_section code_section class_data_section set_section set_offsets ref_list_section directory_section mentions symbols_of in_class_order depth code_bytes debug_bytes class_data_bytes ushort uint bytes_of opcode_of opcode_runs weight
returns-clause-valued_weight c = refl
