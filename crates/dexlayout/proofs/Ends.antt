-- Each part of a file that is not too long ends within its bytes.
use Rattle.dexlayout.proofs.Common.{◌≡◌, ℕ, ◌+◌, ◌^◌, ◌≤◌, length, refl, arith, round_up, Ordered, end, Placed, data_start, type_list_section, annotation_section, array_section, string_section, debug_section, code_section, class_data_section, set_section, ref_list_section, directory_section, sections_follow, end_from_le, length-padding, map_start, map_list, file_end}

-- where the map begins
pub map_start_is : (K : Ordered) → map_start K ≡ round_up 4 (end (directory_section K))
map_start_is K = refl

-- each part begins where the one before it ends, and ends no earlier
pub record AreChained (K : Ordered) : Type 0 where
  pub type_lists : data_start K ≤ end (type_list_section K)
  pub annotations : end (type_list_section K) ≤ end (annotation_section K)
  pub arrays : end (annotation_section K) ≤ end (array_section K)
  pub strings : end (array_section K) ≤ end (string_section K)
  pub debugs : end (string_section K) ≤ end (debug_section K)
  pub codes : end (debug_section K) ≤ end (code_section K)
  pub class_data : end (code_section K) ≤ end (class_data_section K)
  pub sets : end (class_data_section K) ≤ end (set_section K)
  pub ref_lists : end (set_section K) ≤ end (ref_list_section K)
  pub directories : end (ref_list_section K) ≤ end (directory_section K)
  pub map : end (directory_section K) ≤ map_start K

-- a section ends no earlier than it begins
ends_later : (p : Placed) (at : ℕ) → p.from ≡ at → at ≤ end p
ends_later p at is = omega (arith, is, end_from_le p.align p.from p.items)

pub chained : (K : Ordered) → AreChained K
chained K =
    let h = sections_follow K in
    record {
      type_lists = ends_later (type_list_section K) (data_start K) h.0;
      annotations = ends_later (annotation_section K) (end (type_list_section K)) h.1.0;
      arrays = ends_later (array_section K) (end (annotation_section K)) h.1.1.0;
      strings = ends_later (string_section K) (end (array_section K)) h.1.1.1.0;
      debugs = ends_later (debug_section K) (end (string_section K)) h.1.1.1.1.0;
      codes = ends_later (code_section K) (end (debug_section K)) h.1.1.1.1.1.0;
      class_data = ends_later (class_data_section K) (end (code_section K)) h.1.1.1.1.1.1.0;
      sets = ends_later (set_section K) (end (class_data_section K)) h.1.1.1.1.1.1.1.0;
      ref_lists = ends_later (ref_list_section K) (end (set_section K)) h.1.1.1.1.1.1.1.1.0;
      directories = ends_later (directory_section K) (end (ref_list_section K)) h.1.1.1.1.1.1.1.1.1.0;
      map = omega (arith, map_start_is K, length-padding 4 (end (directory_section K)));
    }

-- none ends after 2^30 bytes
pub record EndInFile (K : Ordered) : Type 0 where
  pub tables : data_start K ≤ 2 ^ 30
  pub type_lists : end (type_list_section K) ≤ 2 ^ 30
  pub annotations : end (annotation_section K) ≤ 2 ^ 30
  pub arrays : end (array_section K) ≤ 2 ^ 30
  pub strings : end (string_section K) ≤ 2 ^ 30
  pub debugs : end (debug_section K) ≤ 2 ^ 30
  pub codes : end (code_section K) ≤ 2 ^ 30
  pub class_data : end (class_data_section K) ≤ 2 ^ 30
  pub sets : end (set_section K) ≤ 2 ^ 30
  pub ref_lists : end (ref_list_section K) ≤ 2 ^ 30
  pub directories : end (directory_section K) ≤ 2 ^ 30
  pub map : map_start K ≤ 2 ^ 30
  pub file : map_start K + length (map_list K) ≤ 2 ^ 30

pub end_in_file : (K : Ordered) → file_end K ≤ 2 ^ 30 → EndInFile K
end_in_file K fits = grind (arith, fits, chained K)
