-- Debug programs of a canonical file differ in their bytes: there is at most one debug program at an offset.
use Rattle.dexlayout.proofs.Common.{◌≡◌, ℕ, List, Option, Some, None, refl, sym, subst, ◌∙◌, IfSome, option_to_list, slice_index, Contains, flat_map, option_map_or, get_or_default, All-contains, Contains-append_left, Contains-append_right, BytesAt, present, Code, Debug, MethodDef, Definition, declared_methods, Collection, definitions, mentions, piece_symbols, handler_symbols, debug_symbols, IsGood, greatest_caps, IsDebug, IsCodeItem, IsMethodDef, AreWellFormed, all_methods, debug_uses, uses_offsets, canonical, debug_items, debug_section, ordered, same_debug, debug_bytes, ItemIsAt, UseIsAt, use_encoded, shared_numbered, Contains-flat_map_source, map_source, debug_decides, present_source, HaveOwnBytes}
use Rattle.dexspec.specs.Code.{handlers_of}
use Rattle.dexspec.specs.Depth.{in_class_order}
use Rattle.dexspec.proofs.determined.OneDebug.{one_debug}
use Rattle.dexspec.proofs.normal.ClassPlaces.{in_class_order-only}
use Rattle.dexspec.proofs.normal.MemberRanks.{symbols_in_rows, code_occurs}
use Rattle.dexspec.proofs.normal.NormalClasses.{AreNormal}
use Rattle.dexspec.proofs.normal.NormalForm.{canonical_all_normal}
use Rattle.dexspec.proofs.written.DebugWritten.{debug_written}
use Rattle.dexspec.proofs.written.NumbersWritten.{AreInRows}

-- the code that has the debug program of a use
with_debug : (code : Option Code) (x : Debug) → option_map_or (λ c. c.debug) code None ≡ Some x → (c : Code) × (code ≡ Some c) × (c.debug ≡ Some x)
with_debug None x e = absurd cc
with_debug (Some c) x e = (c, refl, e)

module _ (D : List Definition) (b : List ℕ) (n : AreNormal D b) where
  -- a debug program that is well formed, whose symbols are in the rows of their indices, and whose bytes are in the data
  record IsInFile (x : Debug) : Type 0 where
    formed : IsDebug x
    rows : AreInRows b (mentions D) (debug_symbols x)
    place : ℕ
    at : ItemIsAt b 1 place (debug_bytes (mentions D) x)

  in_file : (x : Debug) → Contains (present (debug_uses (ordered D))) x → IsInFile x
  unfolding debug_section
  in_file x c =
      let K = ordered D in
      let found = present_source (debug_uses K) x c in
      let off = slice_index (uses_offsets (debug_section K)) found.0 in
      let at = use_encoded (debug_section K) (debug_bytes (mentions D)) (debug_items K) (debug_uses K) (shared_numbered same_debug debug_decides (debug_uses K)) refl n.file.laid.debugs found.0 found.1 in
      let method = map_source (λ (y : MethodDef). option_map_or (λ k. k.debug) y.code None) (all_methods (in_class_order D)) (Some x) (found.0, found.1, get_or_default (debug_uses K) found.0 (Some x) None found.1 ∙ found.2) in
      let class = Contains-flat_map_source (λ (d : Definition). declared_methods d.1) (in_class_order D) method.0 method.1 in
      let defined = in_class_order-only D class.0 class.1 in
      let code = with_debug method.0.code x method.2 in
      let item : IsCodeItem code.0 = subst (λ (o : Option Code). IfSome o IsCodeItem) code.1 (All-contains IsMethodDef (declared_methods class.0.1) method.0 (n.formed class.0 defined).methods class.2).code in
      record {
        formed = subst (λ (o : Option Debug). IfSome o IsDebug) code.2 item.debug;
        rows = λ s k. symbols_in_rows D b n.file class.0 defined s (code_occurs class.0.0 class.0.1 method.0 code.0 s class.2 code.1
            (Contains-append_right (flat_map piece_symbols code.0.pieces) _ s (Contains-append_right (flat_map handler_symbols (handlers_of code.0.tries)) _ s
            (subst (λ (o : Option Debug). Contains (flat_map debug_symbols (option_to_list o)) s) (sym code.2) (Contains-append_left (debug_symbols x) _ s k)))));
        place = off;
        at = subst (λ u. UseIsAt b 1 (debug_bytes (mentions D)) u off) found.2 at;
      }

  apart : HaveOwnBytes (ordered D)
  apart x y c d same =
      let p = in_file x c in
      one_debug b p.place x y (debug_written b (mentions D) p.place x p.formed p.rows p.at.in_data.following p.at.encodes)
      (debug_written b (mentions D) p.place y (in_file y d).formed (in_file y d).rows p.at.in_data.following (subst (BytesAt b p.place) same p.at.encodes))

-- those of the canonical file
pub debugs_apart : (C : Collection) → IsGood greatest_caps (definitions C) → AreWellFormed (definitions C) → HaveOwnBytes (ordered (definitions C))
debugs_apart C good formed = apart (definitions C) (canonical C) (canonical_all_normal C good formed)
