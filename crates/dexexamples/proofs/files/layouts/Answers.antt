use Rattle.dexexamples.proofs.Common.{refl, mentions, symbols_of, depth, in_class_order, bytes_of, ushort, uint, opcode_of, opcode_runs, code_bytes, debug_bytes, class_data_bytes, unsigned_file, type_list_section, annotation_section, annotation_offsets, array_section, string_section, debug_section, code_section, class_data_section, set_section, set_offsets, ref_list_section, directory_section}
use Rattle.dexexamples.proofs.files.layouts.Goals as goal

pub returns-clause-nothing : goal.returns-clause-nothing
unfolding unsigned_file type_list_section annotation_section annotation_offsets array_section string_section debug_section code_section class_data_section set_section set_offsets ref_list_section directory_section mentions symbols_of in_class_order depth code_bytes debug_bytes class_data_bytes ushort uint bytes_of opcode_of opcode_runs
returns-clause-nothing c = refl

pub returns-clause-plain : goal.returns-clause-plain
unfolding unsigned_file type_list_section annotation_section annotation_offsets array_section string_section debug_section code_section class_data_section set_section set_offsets ref_list_section directory_section mentions symbols_of in_class_order depth code_bytes debug_bytes class_data_bytes ushort uint bytes_of opcode_of opcode_runs
returns-clause-plain c = refl

pub returns-clause-method : goal.returns-clause-method
unfolding unsigned_file type_list_section annotation_section annotation_offsets array_section string_section debug_section code_section class_data_section set_section set_offsets ref_list_section directory_section mentions symbols_of in_class_order depth code_bytes debug_bytes class_data_bytes ushort uint bytes_of opcode_of opcode_runs
returns-clause-method c = refl
