-- The modules that the table has, one after another.
use Rattle.std.proofs.Common.{◌≡◌, ℕ, ◌+◌, ◌<◌, ◌≤◌, ◌==◌, Bool, true, false, cond, List, [], ◌∷◌, map, zip, length, drop, get_or, Some, slice_get, refl, sym, ap, ◌∙◌, subst, arith, true≢false, eq-eqb, if◌then◌else◌}
use Rattle.std.specs.Prelude.{nat_eq}
use Rattle.std.specs.Map.{lookup}
use Rattle.std.proofs.lemmas.Bool.{eqb-true, eqb-false}
use Rattle.std.proofs.lemmas.List.{length-map, drop_more, drop-drop}
use Rattle.std.proofs.lemmas.Option.{get_or_from_slice_get, slice_get_read, slice_get_within}
use Rattle.indexmap.specs.IndexMap.{insert_entry}
use Rattle.fir_types.specs.declared.name.Name.{Name}
use Rattle.fir_types.specs.declared.fir_type.FirType.{FirType}
use Rattle.fir_tree.specs.declared.circuit.Module.{Module}
use Rattle.fir_meaning.specs.Components.{TypedModule, declarations_of, with_types, type_in}
use Rattle.fir_meaning.specs.Mentions.{Scope}
use Rattle.fir_names.proofs.Graphs.{some_same}
use Rattle.circuit_laws.specs.Designs.{component_of}
use Rattle.drive_check.specs.Sites.{names_of}
use Rattle.drive_check.specs.Typing.{typed as types_for}
use Rattle.drive_check.proofs.Linking.{names_are}
use Rattle.drive_check.proofs.Telling.{scope_is}
use Rattle.one_clock.specs.declared.module_clocks.ModuleClocks.{ModuleClocks}
use Rattle.one_clock.specs.Tables.{Table, HasClocks, Keeps, Holds}
use Rattle.one_clock.proofs.Lists.{get_drop}

inserted : (es : Table) (key : ℕ) (c : ModuleClocks) (q : ℕ) → lookup (nat_eq q) (insert_entry nat_eq es key c) ≡ cond (nat_eq q key) (Some c) (lookup (nat_eq q) es)
inserted [] key c q = refl
inserted (e ∷ es) key c q = by (nat_eq key e.0) refl (inserted es key c q)
  where
    own : (a b : Bool) → a ≡ b → cond a (Some c) (lookup (nat_eq q) es) ≡ cond b (Some c) (cond a (Some e.1) (lookup (nat_eq q) es))
    own true true same = refl
    own false false same = refl
    own true false same = absurd (true≢false same)
    own false true same = absurd (true≢false (sym same))

    other : (a b : Bool) → nat_eq q e.0 ≡ a → nat_eq q key ≡ b → nat_eq key e.0 ≡ false → lookup (nat_eq q) (insert_entry nat_eq es key c) ≡ cond (nat_eq q key) (Some c) (lookup (nat_eq q) es)
        → cond a (Some e.1) (lookup (nat_eq q) (insert_entry nat_eq es key c)) ≡ cond b (Some c) (cond a (Some e.1) (lookup (nat_eq q) es))
    other true true f g h later = absurd (eqb-false key e.0 h (sym (eqb-true q key g) ∙ eqb-true q e.0 f))
    other true false f g h later = refl
    other false b f g h later = later ∙ ap (λ x. cond x (Some c) (lookup (nat_eq q) es)) g

    by : (b : Bool) → nat_eq key e.0 ≡ b → lookup (nat_eq q) (insert_entry nat_eq es key c) ≡ cond (nat_eq q key) (Some c) (lookup (nat_eq q) es)
        → lookup (nat_eq q) (if b then (e.0, c) ∷ es else e ∷ insert_entry nat_eq es key c) ≡ cond (nat_eq q key) (Some c) (cond (nat_eq q e.0) (Some e.1) (lookup (nat_eq q) es))
    by true same later = own (nat_eq q e.0) (nat_eq q key) (ap (nat_eq q) (sym (eqb-true key e.0 same)))
    by false apart later = other (nat_eq q e.0) (nat_eq q key) refl refl apart later

-- of the first modules the table has those that main reaches
abbrev pub Kept : List Module → List TypedModule → List Bool → Table → ℕ → Type 0
Kept modules typed reached table number = (k : ℕ) (holder : Module) (m : TypedModule) → k < number → slice_get modules k ≡ Some holder → slice_get typed k ≡ Some m
    → slice_get reached k ≡ Some true → Holds table (type_in m) holder m.name

-- and these types are those of the later ones
pub record Tabled (modules : List Module) (typed : List TypedModule) (reached : List Bool) (table : Table) (number : ℕ) (rest : List FirType) : Type 0 where
  pub later : drop number typed ≡ with_types (drop number modules) rest
  pub kept : Kept modules typed reached table number

pub tabled_first : (modules : List Module) (reached : List Bool) (rest : List FirType) (table : Table) → Tabled modules (with_types modules rest) reached table 0 rest
tabled_first modules reached rest table = record { later = refl; kept = λ k holder m below. absurd (omega (arith, below)) }

-- what a module does to the table
abbrev pub After : Bool → Scope → Module → Table → Table → Type 0
After true types holder old new = Keeps types holder old new
After false types holder old new = new ≡ old

pub after_true : (types : Scope) (holder : Module) (old new : Table) (b : Bool) → b ≡ true → Keeps types holder old new → After b types holder old new
after_true types holder old new b e h = subst (λ q. After q types holder old new) (sym e) h

pub after_false : (types : Scope) (holder : Module) (old new : Table) (b : Bool) → b ≡ false → new ≡ old → After b types holder old new
after_false types holder old new b e h = subst (λ q. After q types holder old new) (sym e) h

abbrev AreOnce : List TypedModule → Type 0
AreOnce typed = (j k : ℕ) (m n : TypedModule) → slice_get typed j ≡ Some m → slice_get typed k ≡ Some n → m.name ≡ n.name → j ≡ k

-- a module that main reaches
kept_one : (modules : List Module) (typed : List TypedModule) (reached : List Bool) (table after : Table) (number : ℕ) (holder : Module) (m : TypedModule) → slice_get modules number ≡ Some holder
    → slice_get typed number ≡ Some m → m.name ≡ holder.name.id → AreOnce typed → Kept modules typed reached table number → Keeps (type_in m) holder table after
    → Kept modules typed reached after (number + 1)
kept_one modules typed reached table after number holder m here' at name once kept keeps k x n below h a flag = by (k == number) refl
  where
    own : Holds after (type_in m) holder m.name
    own = record {
      clocks = keeps.clocks;
      at = ap (lookup (nat_eq m.name)) keeps.entries ∙ inserted table holder.name.id keeps.clocks m.name
          ∙ ap (λ b. cond b (Some keeps.clocks) (lookup (nat_eq m.name) table)) (eq-eqb m.name holder.name.id name);
      has = keeps.has;
    }

    apart : (k ≡ number → ⊥) → (b : Bool) → nat_eq n.name holder.name.id ≡ b → b ≡ false
    apart other false e = refl
    apart other true e = absurd (other (once k number n m a at (eqb-true n.name holder.name.id e ∙ sym name)))

    by : (b : Bool) → (k == number) ≡ b → Holds after (type_in n) x n.name
    by true same =
        let is : k ≡ number = eqb-true k number same in
        let one : holder ≡ x = some_same (sym here' ∙ ap (slice_get modules) (sym is) ∙ h) in
        let two : m ≡ n = some_same (sym at ∙ ap (slice_get typed) (sym is) ∙ a) in
        subst (λ (y : Module). Holds after (type_in n) y n.name) one (subst (λ (z : TypedModule). Holds after (type_in z) holder z.name) two own)
    by false other =
        let no = eqb-false k number other in
        let old : Holds table (type_in n) x n.name = kept k x n (omega (arith, below, no)) h a flag in
        record {
          clocks = old.clocks;
          at = ap (lookup (nat_eq n.name)) keeps.entries ∙ inserted table holder.name.id keeps.clocks n.name
              ∙ ap (λ b. cond b (Some keeps.clocks) (lookup (nat_eq n.name) table)) (apart no (nat_eq n.name holder.name.id) refl) ∙ old.at;
          has = old.has;
        }

-- and one that it doesn't reach
kept_none : (modules : List Module) (typed : List TypedModule) (reached : List Bool) (table after : Table) (number : ℕ) → get_or reached number false ≡ false → after ≡ table
    → Kept modules typed reached table number → Kept modules typed reached after (number + 1)
kept_none modules typed reached table after number out same kept k x n below h a flag = by (k == number) refl
  where
    by : (b : Bool) → (k == number) ≡ b → Holds after (type_in n) x n.name
    by true e =
        let is : k ≡ number = eqb-true k number e in
        absurd (true≢false (sym (get_or_from_slice_get reached number true false (ap (slice_get reached) (sym is) ∙ flag)) ∙ out))
    by false e =
        let no = eqb-false k number e in
        subst (λ t. Holds t (type_in n) x n.name) (sym same) (kept k x n (omega (arith, below, no)) h a flag)

abbrev made : Module → List FirType → TypedModule
made x types = record { name = x.name.id; components = map component_of (zip (declarations_of x) types) }

pub tabled_more : (modules : List Module) (typed_modules : List TypedModule) (reached : List Bool) (i n : ℕ) (x : Module) (names : List Name) (rest rest' : List FirType) (table after : Table)
    → AreOnce typed_modules → i < length modules → x ≡ get_or modules i x → Tabled modules typed_modules reached table i rest
    → After (get_or reached i false) (types_for (names_of x) rest) x table after → names ≡ names_of x → n ≡ length names → rest' ≡ drop n rest
    → Tabled modules typed_modules reached after (i + 1) rest'
tabled_more modules typed_modules reached i n x names rest rest' table after once lt is t h e c r = record {
  later = sym (drop-drop 1 i typed_modules) ∙ ap (drop 1) now' ∙ ap (with_types (drop (i + 1) modules)) types;
  kept = by (get_or reached i false) refl h;
}
  where
    now' : drop i typed_modules ≡ made x rest ∷ with_types (drop (i + 1) modules) (drop (length (declarations_of x)) rest)
    now' = t.later ∙ ap (λ l. with_types l rest) (drop_more modules i x lt ∙ ap (λ y. y ∷ drop (i + 1) modules) (sym is))

    counted : length (names_of x) ≡ length (declarations_of x)
    counted = sym (length-map (names_of x) (λ n. n.id)) ∙ sym (ap length (names_are x)) ∙ length-map (declarations_of x) (λ d. d.name)

    types : drop (length (declarations_of x)) rest ≡ rest'
    types = sym (r ∙ ap (λ k. drop k rest) (c ∙ ap length e ∙ counted))

    here' : slice_get modules i ≡ Some x
    here' = slice_get_read modules (length modules) i x refl lt is

    at : slice_get typed_modules i ≡ Some (made x rest)
    at = sym (get_drop typed_modules i) ∙ ap (λ l. slice_get l 0) now'

    by : (b : Bool) → get_or reached i false ≡ b → After b (types_for (names_of x) rest) x table after → Kept modules typed_modules reached after (i + 1)
    by true flag keeps = kept_one modules typed_modules reached table after i x (made x rest) here' at refl once t.kept
        (subst (λ s. Keeps s x table after) (scope_is x (made x rest) rest refl) keeps)
    by false flag same = kept_none modules typed_modules reached table after i flag same t.kept

pub tabled_all : (modules ms : List Module) (typed_modules : List TypedModule) (reached rs : List Bool) (table : Table) (number : ℕ) (rest : List FirType)
    → Tabled modules typed_modules reached table number rest → length modules ≤ number → modules ≡ ms → reached ≡ rs
    → (k : ℕ) (holder : Module) (m : TypedModule) → slice_get ms k ≡ Some holder → slice_get typed_modules k ≡ Some m → slice_get rs k ≡ Some true → Holds table (type_in m) holder m.name
tabled_all modules ms typed_modules reached rs table number rest t past e f k holder m h a flag =
    let here' : slice_get modules k ≡ Some holder = ap (λ l. slice_get l k) e ∙ h in
    let within = slice_get_within modules k holder here' in
    t.kept k holder m (omega (arith, within, past)) here' a (ap (λ l. slice_get l k) f ∙ flag)

pub keeps : (T S : Scope) (holder : Module) (old new : Table) (clocks : ModuleClocks) → ((id : ℕ) → T id ≡ S id) → HasClocks T holder clocks
    → new ≡ insert_entry nat_eq old holder.name.id clocks → Keeps S holder old new
keeps T S holder old new clocks same has e = record { clocks = clocks; entries = e; has = subst (λ s. HasClocks s holder clocks) scopes has }
  where
    scopes : T ≡ S
    scopes = λ i id. same id i
