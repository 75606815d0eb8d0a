-- The file that parts of class rows are read from.
use Rattle.dexpool.specs.Pools.{ArePools}
use Rattle.dexmembers.specs.declared.row_reader.RowReader.{RowReader}

-- the pools are those of the file
abbrev pub IsFile : RowReader → Type 0
IsFile reader = ArePools reader.frame.now reader.pools.now
