-- Catches, handlers and tries as they are read, and when there are none.
use Rattle.std.specs.Prelude.{◌≡◌, ℕ, ◌+◌, ◌<◌, ◌≤◌, Bool, List, length, Option, Result, IfOk}
use Rattle.dexspec.specs.Code.{most_handlers}
use Rattle.dexpool.specs.declared.faults.ItemFault.{ItemFault}
use Rattle.dexspec.specs.Lists.{Sequence}
use Rattle.dexspec.specs.Numbers.{Uleb128At}
use Rattle.dexcode.specs.declared.tries.Try.{Try}
use Rattle.dexcode.specs.Numbered.{NumberedHandler, NumberedTry, all_named, handlers_of, handlers_weight}
use Rattle.dexcode.specs.Reading.{AreApartFrom, HandlerAt, ListedTryAt, TriesAt, TriesRead, TryItemsAt}
use Rattle.dexcode.specs.internal.NamedHandlers.{AreListed}

-- ---- what is not there

-- at offset o is no handler, of any size
abbrev pub NoHandlerAt : List Bool → ℕ → List ℕ → ℕ → Type 0
NoHandlerAt starts types b o = (h : NumberedHandler) (n : ℕ) → HandlerAt starts types b o h n → ⊥

-- at offset o is no handler list
abbrev pub NoList : List Bool → ℕ → List ℕ → ℕ → Type 0
NoList starts types b o =
    (hs : List NumberedHandler) (size n : ℕ) → Uleb128At b o (length hs) size
    → Sequence (HandlerAt starts types) b (o + size) hs n → ⊥

-- from offset o on there are not `count` try_items that are apart and whose handlers are numbered
abbrev pub NoTries : ℕ → List (Option ℕ) → List ℕ → ℕ → ℕ → Type 0
NoTries units numbers b o count =
    (ts : List Try) (n to : ℕ) → length ts ≡ count → Sequence (ListedTryAt units numbers) b o ts n
    → AreApartFrom 0 ts to → ⊥

-- from offset o on there are not `count` try_items and their handler list
abbrev pub NoTryItems : List Bool → ℕ → ℕ → List ℕ → ℕ → ℕ → Type 0
NoTryItems starts types units b o count = (ts : List NumberedTry) → TryItemsAt starts types units b o count ts → ⊥

-- the code_item at an offset has no such tries
abbrev pub HasNoTries : List Bool → ℕ → List ℕ → ℕ → Type 0
HasNoTries starts types b off = (ts : List NumberedTry) → TriesAt starts types b off ts → ⊥

-- ---- what is

-- these `count` try_items are at offset o, up to an address
abbrev pub AreTriesRead : ℕ → List (Option ℕ) → List ℕ → ℕ → ℕ → List Try → Type 0
AreTriesRead units numbers b o count ts = (to : ℕ) × TriesRead units numbers b o count ts to

-- ---- tries with the handlers that they name

-- the handlers that tries name weigh no more than they may
abbrev pub HaveLightHandlers : List NumberedTry → Type 0
HaveLightHandlers ts = handlers_weight (handlers_of ts) ≤ most_handlers

-- where tries are found, they are those with the handlers of their numbers
abbrev pub IsFoundNamed : List Bool → ℕ → List ℕ → ℕ → ℕ → List Try → Result (List NumberedTry) ItemFault → Type 0
IsFoundNamed starts types b o list ts result =
    (all : List NumberedHandler) → AreListed starts types b o list all ts
    → IfOk result (λ found. found ≡ all_named all ts)

-- the handlers of their numbers weigh more than they may
abbrev pub AreHeavy : List Bool → ℕ → List ℕ → ℕ → ℕ → List Try → Type 0
AreHeavy starts types b o list ts =
    (all : List NumberedHandler) → AreListed starts types b o list all ts
    → most_handlers < handlers_weight (handlers_of (all_named all ts))
