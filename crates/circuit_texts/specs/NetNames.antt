-- The leaves of a net that words name.
use Rattle.std.specs.Prelude.{◌≡◌, ℕ, ◌&&◌, Bool, true, false, List, [], ◌∷◌, slice_get, Some, Contains}
use Rattle.std.specs.List.{AllZip}
use Rattle.std.specs.Str.{bytes_eq}
use Rattle.ground_net.specs.declared.net.Leaf.{Leaf}
use Rattle.ground_net.specs.declared.net.Net.{Net}
use Rattle.ground_net.specs.declared.net.PortLeaf.{PortLeaf}
use Rattle.ground_net.specs.declared.net.Role.{Role}
use Rattle.ground_net.specs.declared.net.Role.TheVariants as role
use Rattle.ground_net.specs.Naming.{IsNamed, IsFirstNamed}
use Rattle.ground_net.specs.Watching.{port_leaf}
use Rattle.circuit_run.specs.NetRuns.{watch}

-- These are the numbers of the leaves that are dumped: for each word that of the first leaf of its name; and where there is no word,
-- those by which main is watched.
abbrev pub AreNumbersOf : Net → List (List ℕ) → List ℕ → Type 0
AreNumbersOf net [] numbers = numbers ≡ watch net
AreNumbersOf net (name ∷ names) numbers = AllZip (IsFirstNamed net) (name ∷ names) numbers

-- One of the words names no leaf other than a Clock.
pub record NamesNone (net : Net) (names : List (List ℕ)) : Type 0 where
  pub name : List ℕ
  pub among : Contains names name
  pub none : (x : ℕ) → IsNamed net name x → ⊥

-- whether a leaf of this role has a value
abbrev pub is_valued : Role → Bool
is_valued role.Clock = false
is_valued _ = true

-- whether a leaf has this name and is no Clock
abbrev pub is_named : List ℕ → Leaf → Bool
is_named name leaf = is_valued leaf.role && bytes_eq leaf.name name

-- the leaf of this number
pub record IsLeafAt (leaves : List Leaf) (x : ℕ) (var : PortLeaf) : Type 0 where
  pub leaf : Leaf
  pub there : slice_get leaves x ≡ Some leaf
  pub is : var ≡ port_leaf x leaf
