-- Tries and handlers whose types are numbers.
use Rattle.std.specs.Prelude.{◌≡◌, ℕ, ◌+◌, ◌*◌, ◌^◌, ◌<◌, ◌≤◌, Bool, ◌&&◌, ◌==◌, List, [], length, map, sum_by, All}
use Rattle.std.specs.Prelude.{slice_index_or, Option, None}
use Rattle.std.specs.Option.{option_eq}
use Rattle.std.specs.Cmp.Lexicographic.{pointwise}
use Rattle.dexspec.specs.Lists.{distinct}
use Rattle.dexspec.specs.Mentions.{Mentions}
use Rattle.dexspec.specs.Code as symbolic
use Rattle.dexpool.specs.NumberedSymbols.{type_at}
use Rattle.dexinsn.specs.Numbered.{NumberedCode}
use Rattle.dexdebug.specs.Debug.{NumberedDebug}
use Rattle.dexcode.specs.declared.handlers.Catch.{Catch}
use Rattle.dexcode.specs.declared.tries.Try.{Try}

-- What is caught where, in order, and where all else is.
pub record NumberedHandler : Type 0 where
  pub catches : List Catch
  pub catch_all_addr : Option ℕ

-- The units that are covered, and their handler.
pub record NumberedTry : Type 0 where
  pub start_addr : ℕ
  pub insn_count : ℕ
  pub handler : NumberedHandler

-- whether two catches are the same
abbrev pub same_catch : Catch → Catch → Bool
same_catch c d = c.typ == d.typ && c.addr == d.addr

-- whether two handlers are
abbrev pub same_handler : NumberedHandler → NumberedHandler → Bool
same_handler h k = pointwise same_catch h.catches k.catches && option_eq ◌==◌ h.catch_all_addr k.catch_all_addr

-- the handlers that tries name, each once, in order of first use
abbrev pub handlers_of : List NumberedTry → List NumberedHandler
handlers_of tries = distinct same_handler (map (λ t. t.handler) tries)

-- the bound on the bytes of a list of handlers
abbrev pub handlers_weight : List NumberedHandler → ℕ
handlers_weight hs = 5 + sum_by (λ h. 10 + 8 * length h.catches) hs

-- a handler that catches no type has a catch-all address
abbrev pub IsWhole : NumberedHandler → Type 0
IsWhole h = h.catch_all_addr ≡ None → 0 < length h.catches

-- the handler is whole, and the number of each type has 32 bits
pub record IsFormedHandler (h : NumberedHandler) : Type 0 where
  pub whole : IsWhole h
  pub types_fit : All (λ c. c.typ < 2 ^ 32) h.catches

-- ---- as they are stored: tries with the number of a handler

-- the handler that is used instead of one that is missing
abbrev pub no_handler : NumberedHandler
no_handler = record { catches = []; catch_all_addr = None }

-- the try with its handler, one of a list
abbrev pub named : List NumberedHandler → Try → NumberedTry
named hs t =
    record { start_addr = t.start_addr; insn_count = t.insn_count; handler = slice_index_or hs t.handler no_handler }

-- tries with their handlers
abbrev pub all_named : List NumberedHandler → List Try → List NumberedTry
all_named hs ts = map (named hs) ts

-- each names a handler of the list, and the list has those that are named, each once, in order of first use; tries can
-- be counted in 16 bits, and the handlers weigh no more than they may, and each is formed
pub record AreStored (hs : List NumberedHandler) (ts : List Try) : Type 0 where
  pub within : All (λ t. t.handler < length hs) ts
  pub used : hs ≡ handlers_of (all_named hs ts)
  pub few : length ts < 2 ^ 16
  pub light : handlers_weight hs ≤ symbolic.most_handlers
  pub formed : All IsFormedHandler hs

-- ---- what numbers denote

-- the catch with the type of its number
abbrev pub catch_meant : Mentions → Catch → symbolic.Catch
catch_meant m c = record { type = type_at m c.typ; address = c.addr }

-- the handler with its types
abbrev pub handler_meant : Mentions → NumberedHandler → symbolic.Handler
handler_meant m h = record { catches = map (catch_meant m) h.catches; catch_all = h.catch_all_addr }

-- the try with those of its handler
abbrev pub try_meant : Mentions → NumberedTry → symbolic.Try
try_meant m t = record { start = t.start_addr; count = t.insn_count; handler = handler_meant m t.handler }

-- ---- the whole

-- A code_item: registers and pieces, tries, and a debug program, if there is one.
pub record NumberedItem : Type 0 where
  pub body : NumberedCode
  pub tries : List NumberedTry
  pub debug : Option NumberedDebug

-- the code with this debug program, or none, instead of its own
abbrev pub with_debug : NumberedItem → Option NumberedDebug → NumberedItem
with_debug c debug = record { body = c.body; tries = c.tries; debug = debug }
