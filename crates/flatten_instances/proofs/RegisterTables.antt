-- Tables of registers, and the registers of a plan.
use Rattle.std.proofs.Common.{◌≡◌, ◌≢◌, ℕ, zero, suc, ◌+◌, ◌<◌, ◌≤◌, Bool, true, false, cond, ◌||◌, nat_lt, nat_eq, List, [], ◌∷◌, ◌++◌, length, take, set, get_or, refl, sym, ap, ◌∙◌, subst, arith, append-nil, Option, Some, None, slice_get, replicate}
use Rattle.std.specs.Prelude.{filter, option_map}
use Rattle.std.specs.List.{list_any, cons_option}
use Rattle.std.proofs.lemmas.Bool.Decides.{nat_tests}
use Rattle.std.proofs.lemmas.Bool.{eqb-true, eqb-false}
use Rattle.std.proofs.lemmas.List.{take_more, length-set}
use Rattle.std.proofs.lemmas.List.Folds.{list_any-append}
use Rattle.std.proofs.lemmas.List.Elements.{filter_more}
use Rattle.std.proofs.lemmas.Option.{slice_get_within, get_or_from_slice_get}
use Rattle.ground_net.specs.declared.circuit.DrivenCircuit.{DrivenCircuit}
use Rattle.ground_net.specs.declared.circuit.DrivenModule.{DrivenModule}
use Rattle.ground_net.specs.declared.net.NetRegister.{NetRegister}
use Rattle.flatten_instances.specs.declared.plan.Site.{Site}
use Rattle.flatten_instances.specs.declared.plan.Plan.{Plan}
use Rattle.flatten_instances.specs.FlatOrder.{Spot}
use Rattle.flatten_instances.specs.Numbers.{register_with}
use Rattle.flatten_instances.specs.Flat.{OneByOne, IsFlatRegister, is_register_at, is_of_register}
use Rattle.flatten_instances.specs.Plans.{IsLeafSite, IsPlan, IsRegisterTable, HasRegisters, HasRegister, Registered}
use Rattle.flatten_instances.proofs.Lists.{some_same, item_there, both_by_both, one_by_one}
use Rattle.flatten_instances.proofs.Steps.{get_set_same, get_set_other}
use Rattle.flatten_instances.proofs.Sites.{numbers_of_table}

abbrev of_leaf : ℕ → NetRegister → Bool
of_leaf y register = nat_eq register.leaf y

or_true : (b : Bool) → (b || true) ≡ true
or_true true = refl
or_true false = refl

or_false : (b : Bool) → (b || false) ≡ b
or_false true = refl
or_false false = refl

-- one register more
any_more : (registers : List NetRegister) (place y : ℕ) (register : NetRegister) → slice_get registers place ≡ Some register
    → list_any (of_leaf y) (take (place + 1) registers) ≡ (list_any (of_leaf y) (take place registers) || of_leaf y register)
any_more registers place y register there =
    let lt = slice_get_within registers place register there in
    ap (list_any (of_leaf y)) (take_more registers place register lt ∙ ap (λ x. take place registers ++ x ∷ []) (get_or_from_slice_get registers place register register there))
    ∙ (list_any-append (of_leaf y) (take place registers) (register ∷ []) ∙ ap (λ b. list_any (of_leaf y) (take place registers) || b) (or_false (of_leaf y register)))

no_registers : (table : List (Option ℕ)) (n y : ℕ) (r : ℕ) → table ≡ replicate n None → slice_get table y ≡ Some (Some r) → ⊥
no_registers table n y r is e = none n y (ap (λ l. slice_get l y) (sym is) ∙ e)
  where
    none : (n y : ℕ) → slice_get (replicate n None) y ≡ Some (Some r) → ⊥
    none zero y e = cc
    none (suc n) zero e = cc
    none (suc n) (suc y) e = none n y e

pub blank_table : (registers : List NetRegister) (n : ℕ) (table : List (Option ℕ)) → table ≡ replicate n None → IsRegisterTable registers 0 table
blank_table registers n table is = record {
  has = λ y r e. absurd (no_registers table n y r is e);
  any = λ y r e. absurd (no_registers table n y r is e);
  none = λ y e. none registers y;
}
  where
    none : (registers : List NetRegister) (y : ℕ) → list_any (of_leaf y) (take 0 registers) ≡ false
    none [] y = refl
    none (r ∷ rs) y = refl

pub table_more : (registers : List NetRegister) (place : ℕ) (register : NetRegister) (table new : List (Option ℕ)) → slice_get registers place ≡ Some register → IsRegisterTable registers place table
    → new ≡ cond (nat_lt register.leaf (length table)) (set table register.leaf (Some place)) table → IsRegisterTable registers (place + 1) new
table_more registers place register table new there h grown = record {
  has = λ y r e. has y r (nat_eq register.leaf y) refl e;
  any = λ y r e. any_more registers place y register there ∙ any y r (nat_eq register.leaf y) refl e;
  none = λ y e. any_more registers place y register there ∙ none y (nat_eq register.leaf y) refl e;
}
  where
    -- at other leaves nothing changes
    other : (y : ℕ) → nat_eq register.leaf y ≡ false → slice_get new y ≡ slice_get table y
    other y ne = ap (λ l. slice_get l y) grown ∙ by (nat_lt register.leaf (length table))
      where
        differs : y ≢ register.leaf
        differs e = eqb-false register.leaf y ne (sym e)

        by : (b : Bool) → slice_get (cond b (set table register.leaf (Some place)) table) y ≡ slice_get table y
        by true = get_set_other table register.leaf y (Some place) differs
        by false = refl

    -- at the register's leaf its place stands
    here : (y : ℕ) (o : Option ℕ) → nat_eq register.leaf y ≡ true → slice_get new y ≡ Some o → o ≡ Some place
    here y o same e = by (nat_lt register.leaf (length table)) refl (ap (λ l. slice_get l y) (sym grown) ∙ e)
      where
        is : register.leaf ≡ y
        is = eqb-true register.leaf y same

        below : (a b : ℕ) → nat_lt a b ≡ true → a < b
        below a b t = grind (arith, nat_tests)

        above : (a b : ℕ) → nat_lt a b ≡ false → b ≤ a
        above a b t = grind (arith, nat_tests)

        by : (b : Bool) → nat_lt register.leaf (length table) ≡ b → slice_get (cond (nat_lt register.leaf (length table)) (set table register.leaf (Some place)) table) y ≡ Some o → o ≡ Some place
        by true t f =
            let g : slice_get (set table register.leaf (Some place)) y ≡ Some o = subst (λ b. slice_get (cond b (set table register.leaf (Some place)) table) y ≡ Some o) t f in
            sym (some_same (sym (get_set_same table register.leaf (Some place) (below register.leaf (length table) t)) ∙ (ap (slice_get (set table register.leaf (Some place))) is ∙ g)))
        by false t f =
            let g : slice_get table y ≡ Some o = subst (λ b. slice_get (cond b (set table register.leaf (Some place)) table) y ≡ Some o) t f in
            absurd (omega (arith, slice_get_within table y o g, above register.leaf (length table) t, is))

    has : (y r : ℕ) (b : Bool) → nat_eq register.leaf y ≡ b → slice_get new y ≡ Some (Some r) → (found : NetRegister) × (slice_get registers r ≡ Some found) × (found.leaf ≡ y)
    has y r true same e = (register, ap (slice_get registers) (some_same (here y (Some r) same e)) ∙ there, eqb-true register.leaf y same)
    has y r false ne e = h.has y r (sym (other y ne) ∙ e)

    any : (y r : ℕ) (b : Bool) → nat_eq register.leaf y ≡ b → slice_get new y ≡ Some (Some r) → (list_any (of_leaf y) (take place registers) || of_leaf y register) ≡ true
    any y r true same e = ap (λ b. list_any (of_leaf y) (take place registers) || b) same ∙ or_true (list_any (of_leaf y) (take place registers))
    any y r false ne e = ap (λ b. b || of_leaf y register) (h.any y r (sym (other y ne) ∙ e))

    none : (y : ℕ) (b : Bool) → nat_eq register.leaf y ≡ b → slice_get new y ≡ Some None → (list_any (of_leaf y) (take place registers) || of_leaf y register) ≡ false
    none y true same e = let z = here y None same e in cc
    none y false ne e = ap (λ b. b || of_leaf y register) (h.none y (sym (other y ne) ∙ e)) ∙ ne

pub length_noted : (b : Bool) (table new : List (Option ℕ)) (leaf : ℕ) (o : Option ℕ) → new ≡ cond b (set table leaf o) table → length new ≡ length table
length_noted true table new leaf o e = ap length e ∙ length-set table leaf o
length_noted false table new leaf o e = ap length e

pub table_noted : (registers items : List NetRegister) (place number : ℕ) (d : NetRegister) (table new : List (Option ℕ)) → items ≡ registers → place < length items → number ≡ place
    → IsRegisterTable registers place table → new ≡ cond (nat_lt (get_or items place d).leaf (length table)) (set table (get_or items place d).leaf (Some number)) table → IsRegisterTable registers (place + 1) new
table_noted registers items place number d table new same lt is h grown =
    table_more registers place (get_or items place d) table new (item_there items registers place d same lt) h
    (grown ∙ ap (λ n. cond (nat_lt (get_or items place d).leaf (length table)) (set table (get_or items place d).leaf (Some n)) table) is)

-- What a table says of a leaf

pub registered : (driven : DrivenCircuit) (s : Spot) (m : DrivenModule) (table : List (Option ℕ)) (r : ℕ) (register : NetRegister) → slice_get driven.modules s.within ≡ Some m → HasRegisters m table
    → slice_get table s.number ≡ Some (Some r) → slice_get m.registers r ≡ Some register → HasRegister driven s register
registered driven s m table r register found h e there =
    let one = h.is.has s.number r e in
    let same : one.0 ≡ register = some_same (sym one.1 ∙ there) in
    record {
      any = ap (λ o. is_of_register o s.number) found ∙ (ap (list_any (of_leaf s.number)) (sym (all m.registers)) ∙ h.is.any s.number r e);
      m = m;
      found = found;
      r = r;
      there = there;
      leaf = ap (λ (x : NetRegister). x.leaf) (sym same) ∙ one.2;
    }
  where
    all : (xs : List NetRegister) → take (length xs) xs ≡ xs
    all [] = refl
    all (x ∷ xs) = ap (λ l. x ∷ l) (all xs)

pub not_registered : (driven : DrivenCircuit) (s : Spot) (m : DrivenModule) (table : List (Option ℕ)) → slice_get driven.modules s.within ≡ Some m → HasRegisters m table
    → slice_get table s.number ≡ Some None → is_register_at driven s ≡ false
not_registered driven s m table found h e = ap (λ o. is_of_register o s.number) found ∙ (ap (list_any (of_leaf s.number)) (sym (all m.registers)) ∙ h.is.none s.number e)
  where
    all : (xs : List NetRegister) → take (length xs) xs ≡ xs
    all [] = refl
    all (x ∷ xs) = ap (λ l. x ∷ l) (all xs)

-- The registers of one site more
pub registers_more : (driven : DrivenCircuit) (plan : Plan) → IsPlan driven plan → (spots : List Spot) → OneByOne (IsLeafSite driven plan.levels) spots plan.leaves → (i : ℕ) (s : Spot) (site : Site)
    → slice_get spots i ≡ Some s → IsLeafSite driven plan.levels s site → (table : List ℕ) → slice_get plan.tables site.level ≡ Some table → (o : Option NetRegister) → Registered driven s o
    → (old new : List NetRegister) → new ≡ old ++ cons_option (option_map (register_with table) o) [] → OneByOne (IsFlatRegister driven spots) (filter (is_register_at driven) (take i spots)) old
    → OneByOne (IsFlatRegister driven spots) (filter (is_register_at driven) (take (i + 1) spots)) new
registers_more driven plan planned spots sites i s site there h table e o is old new grown before = by o is grown
  where
    step : (b : Bool) → is_register_at driven s ≡ b → filter (is_register_at driven) (take (i + 1) spots) ≡ filter (is_register_at driven) (take i spots) ++ cond b (s ∷ []) []
    step b t =
        filter_more (is_register_at driven) spots i s (slice_get_within spots i s there)
        ∙ (ap (λ z. filter (is_register_at driven) (take i spots) ++ cond (is_register_at driven z) (z ∷ []) []) (get_or_from_slice_get spots i s s there)
        ∙ ap (λ c. filter (is_register_at driven) (take i spots) ++ cond c (s ∷ []) []) t)

    by : (o : Option NetRegister) → Registered driven s o → new ≡ old ++ cons_option (option_map (register_with table) o) []
        → OneByOne (IsFlatRegister driven spots) (filter (is_register_at driven) (take (i + 1) spots)) new
    by None none f =
        subst (OneByOne (IsFlatRegister driven spots) (filter (is_register_at driven) (take (i + 1) spots))) (sym (f ∙ append-nil old))
        (subst (λ l. OneByOne (IsFlatRegister driven spots) l old) (sym (step false none ∙ append-nil (filter (is_register_at driven) (take i spots)))) before)
    by (Some register) r f =
        subst (OneByOne (IsFlatRegister driven spots) (filter (is_register_at driven) (take (i + 1) spots))) (sym f)
        (subst (λ l. OneByOne (IsFlatRegister driven spots) l (old ++ register_with table register ∷ [])) (sym (step true r.any))
        (both_by_both (IsFlatRegister driven spots) (filter (is_register_at driven) (take i spots)) (s ∷ []) old (register_with table register ∷ []) before
        (one_by_one (IsFlatRegister driven spots) s (register_with table register) (record {
          m = r.m;
          found = r.found;
          r = r.r;
          register = register;
          there = r.there;
          leaf = r.leaf;
          numbers = table;
          numbered = numbers_of_table driven plan planned spots sites site.level s.path s.within table h.level e;
          is = refl;
        }))))
