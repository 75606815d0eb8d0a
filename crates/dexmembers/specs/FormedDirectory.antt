-- Annotations directories that may be encoded.
use Rattle.std.specs.Prelude.{◌≡◌, length}
use Rattle.dexmembers.specs.Numbered.{fields_of, methods_of}
use Rattle.dexmembers.specs.declared.directory_put.DirectoryItem.{DirectoryItem}

-- there is an offset for each member
pub record IsFormedDirectory (d : DirectoryItem) : Type 0 where
  pub fields : length d.offs.fields.now ≡ length (fields_of d.members.now)
  pub methods : length d.offs.methods.now ≡ length (methods_of d.members.now)
  pub parameters : length d.offs.parameters.now ≡ length (methods_of d.members.now)
