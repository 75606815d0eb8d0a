-- Rows of class definitions as they are read.
use Rattle.std.specs.Prelude.{◌≡◌, ℕ, List}
use Rattle.dexspec.specs.Classes.{class_idx, access_flags, superclass_idx, interfaces_off, source_file_idx}
use Rattle.dexspec.specs.Classes.{annotations_off, class_data_off, static_values_off}
use Rattle.dexmembers.specs.declared.class_def.ClassDef.{ClassDef}

-- class row r has these fields
pub record IsClassDef (b : List ℕ) (r : ℕ) (row : ClassDef) : Type 0 where
  pub class_is : class_idx b r ≡ row.class_idx
  pub flags_are : access_flags b r ≡ row.access_flags
  pub superclass_is : superclass_idx b r ≡ row.superclass_idx
  pub interfaces_are : interfaces_off b r ≡ row.interfaces_off
  pub source_is : source_file_idx b r ≡ row.source_file_idx
  pub annotations_are : annotations_off b r ≡ row.annotations_off
  pub class_data_is : class_data_off b r ≡ row.class_data_off
  pub static_values_are : static_values_off b r ≡ row.static_values_off
