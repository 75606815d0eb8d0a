-- The 23 conditions by name. `Accepted` defines each of them. This project's rule.

-- the conditions, in the order in which they are checked: those of the whole file, of a pool's rows, of class rows
pub data Condition : Type 0 where
  Size Magic Version Lengths Endian Link Checksum Signature Layout Map Strings Types Protos Fields Methods : Condition
  Classes Members Code Tries Debug Values Annotations Weight : Condition
