-- the sections of the code
use Rattle.dexspec.specs.Sections as sections
use Rattle.dexhead.specs.declared.sections.Section.{Section}
use Rattle.dexhead.specs.declared.sections.Section.TheVariants.{HeaderItem, TableOf, MapList, TypeLists}
use Rattle.dexhead.specs.declared.sections.Section.TheVariants.{AnnotationSetRefLists, AnnotationSets, ClassDataItems}
use Rattle.dexhead.specs.declared.sections.Section.TheVariants.{CodeItems, StringDataItems, DebugInfoItems}
use Rattle.dexhead.specs.declared.sections.Section.TheVariants.{AnnotationItems, EncodedArrayItems}
use Rattle.dexhead.specs.declared.sections.Section.TheVariants.{AnnotationsDirectories}
use Rattle.dexhead.specs.Tables.{meant}

-- the section that is meant
abbrev pub section_meant : Section → sections.Section
section_meant HeaderItem = sections.HeaderItem
section_meant (TableOf table) = sections.TableOf (meant table)
section_meant MapList = sections.MapList
section_meant TypeLists = sections.TypeLists
section_meant AnnotationSetRefLists = sections.AnnotationSetRefLists
section_meant AnnotationSets = sections.AnnotationSets
section_meant ClassDataItems = sections.ClassDataItems
section_meant CodeItems = sections.CodeItems
section_meant StringDataItems = sections.StringDataItems
section_meant DebugInfoItems = sections.DebugInfoItems
section_meant AnnotationItems = sections.AnnotationItems
section_meant EncodedArrayItems = sections.EncodedArrayItems
section_meant AnnotationsDirectories = sections.AnnotationsDirectories
