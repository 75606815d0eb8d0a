use Rattle.dexspec.proofs.size.SizeItems.{string_data-size, debug_bytes-size, value_bytes-size, values_bytes-size, elements_bytes-size, annotation_bytes-size, encoded_array_bytes-size, offsets_bytes-size, type_list-size}
use Rattle.dexspec.proofs.size.SizeCode.{code_bytes-size, handler_list_bytes-size, handler_off-size}
use Rattle.dexspec.proofs.size.SizeClass.{class_data_bytes-size, directory-size}
use Rattle.dexlaws.proofs.size.item_size_law.Goals as goal

pub returns : goal.returns
returns c = record {
  texts = string_data-size;
  debugs = debug_bytes-size;
  values = λ m. record {
    value = value_bytes-size m;
    values = values_bytes-size m;
    elements = elements_bytes-size m;
    annotation = annotation_bytes-size m;
    static_values = encoded_array_bytes-size m;
  };
  codes = code_bytes-size;
  handlers = λ m few. record { list = handler_list_bytes-size m few; places = handler_off-size m };
  class_data = class_data_bytes-size;
  directories = directory-size;
  sets_and_lists = offsets_bytes-size;
  type_lists = type_list-size;
}
