-- What stands behind paths, summed module by module.
use Rattle.std.proofs.Common.{◌≡◌, ℕ, zero, suc, ◌+◌, ◌*◌, ◌-◌, ◌^◌, ◌<◌, ◌≤◌, min, List, [], ◌∷◌, ◌++◌, map, take, length, get_or, refl, sym, ap, ap₂, ◌∙◌, arith, flat_map}
use Rattle.std.specs.Prelude.{Option, None, Some, option_map, slice_get}
use Rattle.std.proofs.lemmas.Grind.{common_steps}
use Rattle.std.proofs.lemmas.List.{map_more}
use Rattle.std.proofs.lemmas.List.Sums.{sum_by-cons}
use Rattle.std.proofs.lemmas.Option.{slice_get-map, slice_get-get_or, none-some, same_Some}
use Rattle.fir_tree.specs.declared.circuit.Module.{Module}
use Rattle.fir_tree.specs.LeafNames.{Texts, text_of}
use Rattle.size_check.specs.declared.sums.Sums.{Sums}
use Rattle.size_check.specs.declared.sums.Total.{Total}
use Rattle.size_check.specs.declared.calls.Call.{Call}
use Rattle.size_check.specs.Caps.{cap, capped, capped_total}
use Rattle.size_check.specs.Owns.{module_own}
use Rattle.size_check.specs.Typings.{named}
use Rattle.size_check.specs.Rounds.{totals_at, owns_of, deeper}
use Rattle.size_check.specs.Standings.{Standing, standings, of_found, of_call, behind, before, at_path, total_of, add, no_total, calls_in}
use Rattle.fir_tree.proofs.Capping.{cap_times}
use Rattle.size_check.proofs.Capping.{sums_same, total_same, capped_add, add_later, no_total_add, add_no_total}

pub total-append : (texts : Texts) (modules : List Module) (xs ys : List Standing) → total_of texts modules (xs ++ ys) ≡ add (total_of texts modules xs) (total_of texts modules ys)
total-append texts modules [] ys = sym (no_total_add (total_of texts modules ys))
total-append texts modules (x ∷ xs) ys =
    ap (add (at_path texts x.path (module_own texts modules x.holder))) (total-append texts modules xs ys)
    ∙ sym (add_later (at_path texts x.path (module_own texts modules x.holder)) (total_of texts modules xs) (total_of texts modules ys))

-- one name more before a path
longer : (b n k l : ℕ) → b + n * (l + 1 + k) ≡ b + n * k + n * (l + 1)
longer b n k l = grind (arith, common_steps)

at_longer : (texts : Texts) (name : ℕ) (path : List ℕ) (own : Sums) → at_path texts (name ∷ path) own ≡ deeper (at_path texts path own) (length (text_of texts name))
at_longer texts name path own =
    let l = length (text_of texts name) in
    let front : before texts (name ∷ path) ≡ l + 1 + before texts path = sum_by-cons (λ (x : ℕ). x) (l + 1) (map (λ n. length (text_of texts n) + 1) path) in
    total_same (sums_same refl refl refl (ap (λ k. own.bytes + own.names * k) front ∙ longer own.bytes own.names (before texts path) l) refl) (omega arith)

spread : (b n c m l : ℕ) → b + n * (l + 1) + (c + m * (l + 1)) ≡ b + c + (n + m) * (l + 1)
spread b n c m l = grind (arith, common_steps)

deeper_add : (a b : Total) (l : ℕ) → add (deeper a l) (deeper b l) ≡ deeper (add a b) l
deeper_add a b l = total_same (sums_same refl refl refl (spread a.sums.bytes a.sums.names b.sums.bytes b.sums.names l) refl) (omega arith)

behind_all : (texts : Texts) (modules : List Module) (name : ℕ) (s : Standing) (rest : List Standing)
    → total_of texts modules (map (behind name) (s ∷ rest)) ≡ deeper (total_of texts modules (s ∷ rest)) (length (text_of texts name))
behind_all texts modules name s [] =
    let o = module_own texts modules s.holder in
    add_no_total (at_path texts (name ∷ s.path) o) ∙ at_longer texts name s.path o
    ∙ ap (λ t. deeper t (length (text_of texts name))) (sym (add_no_total (at_path texts s.path o)))
behind_all texts modules name s (r ∷ rest) =
    let o = module_own texts modules s.holder in
    ap₂ add (at_longer texts name s.path o) (behind_all texts modules name r rest)
    ∙ deeper_add (at_path texts s.path o) (total_of texts modules (r ∷ rest)) (length (text_of texts name))

-- what stands from a module on is never nothing
stands_first : (modules : List Module) (d : ℕ) (m : Module) → (s : Standing) × (rest : List Standing) × (standings modules d m ≡ s ∷ rest)
unfolding standings
stands_first modules zero m = (record { path = []; holder = m }, [], refl)
stands_first modules (suc d) m = (record { path = []; holder = m }, flat_map (of_call modules (standings modules d)) (calls_in m), refl)

pub behind_module : (texts : Texts) (modules : List Module) (name d : ℕ) (m : Module)
    → total_of texts modules (map (behind name) (standings modules d m)) ≡ deeper (total_of texts modules (standings modules d m)) (length (text_of texts name))
behind_module texts modules name d m =
    let f = stands_first modules d m in
    ap (λ l. total_of texts modules (map (behind name) l)) f.2 ∙ behind_all texts modules name f.0 f.1
    ∙ sym (ap (λ l. deeper (total_of texts modules l) (length (text_of texts name))) f.2)

-- capped before or behind
pub deeper_capped : (t : Total) (l : ℕ) → capped_total (deeper (capped_total t) l) ≡ capped_total (deeper t l)
deeper_capped t l = total_same (sums_same (again t.sums.size) (again t.sums.leaves) (again t.sums.names) (bytes_to t.sums.bytes t.sums.names l) (again t.sums.words)) (depth_to (2 ^ 128 - 1) t.depth)
  where
    again_to : (m x : ℕ) → min (min x m) m ≡ min x m
    again_to m x = omega arith

    again : (x : ℕ) → cap (cap x) ≡ cap x
    again x = again_to (2 ^ 128 - 1) x

    depth_to : (m x : ℕ) → min (min x m + 1) m ≡ min (x + 1) m
    depth_to m x = omega arith

    both_to : (m x y : ℕ) → min (min x m + y) m ≡ min (x + y) m
    both_to m x y = omega arith

    right_to : (m x y : ℕ) → min (x + min y m) m ≡ min (x + y) m
    right_to m x y = omega arith

    turned : (n k : ℕ) → n * k ≡ k * n
    turned n k = grind (arith, common_steps)

    bytes_to : (b n k : ℕ) → cap (cap b + cap n * (k + 1)) ≡ cap (b + n * (k + 1))
    bytes_to b n k =
        both_to (2 ^ 128 - 1) b (cap n * (k + 1)) ∙ sym (right_to (2 ^ 128 - 1) b (cap n * (k + 1)))
        ∙ ap (λ x. cap (b + x)) (ap cap (turned (cap n) (k + 1)) ∙ cap_times (k + 1) n ∙ ap cap (turned (k + 1) n)) ∙ right_to (2 ^ 128 - 1) b (n * (k + 1))

-- the total of a module that has a number

found_at : (texts : Texts) (modules : List Module) (d : ℕ) (totals : List Total) (number : ℕ) (m : Option Module) (total : Total) → totals ≡ totals_at texts modules d
    → option_map (slice_get modules) (Some number) ≡ option_map Some m → slice_get totals number ≡ Some total
    → (x : Module) × (m ≡ Some x) × (total ≡ capped_total (total_of texts modules (standings modules d x)))
found_at texts modules d totals number None total h e g = absurd (none-some (slice_get modules number) (sym e))
found_at texts modules d totals number (Some x) total h e g =
    let there : slice_get modules number ≡ Some x = same_Some _ _ e in
    let same = sym g ∙ ap (λ l. slice_get l number) h ∙ slice_get-map (λ m. capped_total (total_of texts modules (standings modules d m))) modules number
    ∙ ap (option_map (λ m. capped_total (total_of texts modules (standings modules d m)))) there in
    (x, refl, same_Some _ _ same)

none_at : (texts : Texts) (modules : List Module) (d : ℕ) (totals : List Total) (number : ℕ) (m : Option Module) → totals ≡ totals_at texts modules d
    → option_map (slice_get modules) (Some number) ≡ option_map Some m → slice_get totals number ≡ None → ⊥
none_at texts modules d totals number None h e g = none-some (slice_get modules number) (sym e)
none_at texts modules d totals number (Some x) h e g =
    let there : slice_get modules number ≡ Some x = same_Some _ _ e in
    none-some (capped_total (total_of texts modules (standings modules d x)))
    (sym g ∙ ap (λ l. slice_get l number) h ∙ slice_get-map (λ m. capped_total (total_of texts modules (standings modules d m))) modules number
    ∙ ap (option_map (λ m. capped_total (total_of texts modules (standings modules d m)))) there)

no_number : (modules : List Module) (number : Option ℕ) (m : Option Module) → option_map (slice_get modules) number ≡ option_map Some m → number ≡ None → m ≡ None
no_number modules number None e n = refl
no_number modules number (Some x) e n = absurd (none-some (Some x) (sym (ap (option_map (slice_get modules)) n) ∙ e))

pub found_some : (texts : Texts) (modules : List Module) (d : ℕ) (totals : List Total) (name number : ℕ) (o : Option ℕ) (total : Total) → totals ≡ totals_at texts modules d
    → option_map (slice_get modules) o ≡ option_map Some (named modules name) → o ≡ Some number → slice_get totals number ≡ Some total
    → total ≡ capped_total (total_of texts modules (of_found (standings modules d) (named modules name)))
found_some texts modules d totals name number o total h e n g =
    let f = found_at texts modules d totals number (named modules name) total h (ap (option_map (slice_get modules)) (sym n) ∙ e) g in
    f.2 ∙ sym (ap (λ m. capped_total (total_of texts modules (of_found (standings modules d) m))) f.1)

pub call_some : (texts : Texts) (modules : List Module) (d : ℕ) (totals : List Total) (call : Call) (number : ℕ) (o : Option ℕ) (total after : Total) (l : ℕ)
    → totals ≡ totals_at texts modules d → option_map (slice_get modules) o ≡ option_map Some (named modules call.target) → o ≡ Some number → slice_get totals number ≡ Some total
    → l ≡ length (text_of texts call.name) → after ≡ capped_total (deeper total l)
    → after ≡ capped_total (total_of texts modules (of_call modules (standings modules d) call))
call_some texts modules d totals call number o total after l h e n g w a =
    let f = found_at texts modules d totals number (named modules call.target) total h (ap (option_map (slice_get modules)) (sym n) ∙ e) g in
    a ∙ ap₂ (λ t k. capped_total (deeper t k)) f.2 w ∙ deeper_capped (total_of texts modules (standings modules d f.0)) (length (text_of texts call.name))
    ∙ ap capped_total (sym (behind_module texts modules call.name d f.0))
    ∙ sym (ap (λ m. capped_total (total_of texts modules (map (behind call.name) (of_found (standings modules d) m)))) f.1)

pub found_past : (texts : Texts) (modules : List Module) (d : ℕ) (totals : List Total) (name number : ℕ) (o : Option ℕ) → totals ≡ totals_at texts modules d
    → option_map (slice_get modules) o ≡ option_map Some (named modules name) → o ≡ Some number → slice_get totals number ≡ None → ⊥
found_past texts modules d totals name number o h e n g = none_at texts modules d totals number (named modules name) h (ap (option_map (slice_get modules)) (sym n) ∙ e) g

pub found_none : (texts : Texts) (modules : List Module) (d name : ℕ) (o : Option ℕ) (total : Total)
    → option_map (slice_get modules) o ≡ option_map Some (named modules name) → o ≡ None → total ≡ no_total
    → total ≡ capped_total (total_of texts modules (of_found (standings modules d) (named modules name)))
found_none texts modules d name o total e n t =
    t ∙ sym (ap (λ m. capped_total (total_of texts modules (of_found (standings modules d) m))) (no_number modules o (named modules name) e n))

pub call_none : (texts : Texts) (modules : List Module) (d : ℕ) (call : Call) (o : Option ℕ) (total : Total)
    → option_map (slice_get modules) o ≡ option_map Some (named modules call.target) → o ≡ None → total ≡ no_total
    → total ≡ capped_total (total_of texts modules (of_call modules (standings modules d) call))
call_none texts modules d call o total e n t =
    t ∙ sym (ap (λ m. capped_total (total_of texts modules (map (behind call.name) (of_found (standings modules d) m)))) (no_number modules o (named modules call.target) e n))

-- one instance more
pub calls_more : (texts : Texts) (modules : List Module) (d : ℕ) (calls : List Call) (i : ℕ) (call : Call) (own total one after : Total) → i < length calls → call ≡ get_or calls i call
    → total ≡ capped_total (add own (total_of texts modules (flat_map (of_call modules (standings modules d)) (take i calls))))
    → one ≡ capped_total (total_of texts modules (of_call modules (standings modules d) call)) → after ≡ capped_total (add total one)
    → after ≡ capped_total (add own (total_of texts modules (flat_map (of_call modules (standings modules d)) (take (i + 1) calls))))
calls_more texts modules d calls i call own total one after lt is h o a =
    let f = of_call modules (standings modules d) in
    let done = total_of texts modules (flat_map f (take i calls)) in
    let split : flat_map f (take (i + 1) calls) ≡ flat_map f (take i calls) ++ f call = grind (arith, common_steps) in
    a ∙ ap₂ (λ x y. capped_total (add x y)) h o ∙ capped_add (add own done) (total_of texts modules (f call))
    ∙ ap capped_total (add_later own done (total_of texts modules (f call))
    ∙ ap (add own) (sym (ap (total_of texts modules) split ∙ total-append texts modules (flat_map f (take i calls)) (f call))))

pub calls_begin : (texts : Texts) (modules : List Module) (own before : Total) → own ≡ capped_total before → own ≡ capped_total (add before (total_of texts modules []))
calls_begin texts modules own before h = h ∙ ap capped_total (sym (add_no_total before))

-- one module more
at_start : (texts : Texts) (modules : List Module) (m : Module) → at_path texts [] (module_own texts modules m) ≡ record { sums = module_own texts modules m; depth = 0 }
at_start texts modules m = total_same (sums_same refl refl refl (none (module_own texts modules m).bytes (module_own texts modules m).names) refl) refl
  where
    none : (b n : ℕ) → b + n * 0 ≡ b
    none b n = grind (arith, common_steps)

pub next_of : (texts : Texts) (modules : List Module) (d : ℕ) (m : Module)
    → total_of texts modules (standings modules (suc d) m) ≡ add (record { sums = module_own texts modules m; depth = 0 }) (total_of texts modules (flat_map (of_call modules (standings modules d)) (calls_in m)))
unfolding standings
next_of texts modules d m = ap (λ t. add t (total_of texts modules (flat_map (of_call modules (standings modules d)) (calls_in m)))) (at_start texts modules m)

pub next_more : (texts : Texts) (modules : List Module) (d : ℕ) (i : ℕ) (m : Module) (own : Sums) (calls : List Call) (total : Total) (done after : List Total)
    → i < length modules → m ≡ get_or modules i m → own ≡ capped (module_own texts modules m) → calls ≡ calls_in m
    → ((before : Total) → record { sums = own; depth = 0 } ≡ capped_total before → total ≡ capped_total (add before (total_of texts modules (flat_map (of_call modules (standings modules d)) calls))))
    → done ≡ map (λ m. capped_total (total_of texts modules (standings modules (suc d) m))) (take i modules) → after ≡ done ++ total ∷ []
    → after ≡ map (λ m. capped_total (total_of texts modules (standings modules (suc d) m))) (take (i + 1) modules)
next_more texts modules d i m own calls total done after lt is o cs t h a =
    let f = λ (x : Module). capped_total (total_of texts modules (standings modules (suc d) x)) in
    let start : record { sums = own; depth = 0 } ≡ capped_total (record { sums = module_own texts modules m; depth = 0 }) = total_same o refl in
    let one : total ≡ f m = t (record { sums = module_own texts modules m; depth = 0 }) start
    ∙ ap (λ l. capped_total (add (record { sums = module_own texts modules m; depth = 0 }) (total_of texts modules (flat_map (of_call modules (standings modules d)) l)))) cs
    ∙ ap capped_total (sym (next_of texts modules d m)) in
    a ∙ ap₂ (λ l x. l ++ x ∷ []) h (one ∙ ap f is) ∙ sym (map_more f modules i m lt)

-- the first round
first_of : (texts : Texts) (modules : List Module) (m : Module) → total_of texts modules (standings modules 0 m) ≡ record { sums = module_own texts modules m; depth = 0 }
unfolding standings
first_of texts modules m = add_no_total (at_path texts [] (module_own texts modules m)) ∙ at_start texts modules m

pub first_totals : (texts : Texts) (modules : List Module) (owns : List Sums) (totals : List Total) → owns ≡ owns_of texts modules
    → totals ≡ map (λ own. record { sums = own; depth = 0 }) owns → totals ≡ totals_at texts modules 0
first_totals texts modules owns totals o t = t ∙ ap (map (λ (own : Sums). record { sums = own; depth = 0 })) o ∙ each modules
  where
    each : (ms : List Module) → map (λ (own : Sums). record { sums = own; depth = 0 }) (map (λ m. capped (module_own texts modules m)) ms) ≡ map (λ m. capped_total (total_of texts modules (standings modules 0 m))) ms
    each [] = refl
    each (m ∷ ms) = ap₂ (λ x l. x ∷ l) (sym (ap capped_total (first_of texts modules m))) (each ms)

-- what a module has of its own, by its number
pub own_is : (texts : Texts) (modules : List Module) (owns : List Sums) (i : ℕ) (m : Module) (own : Sums) → i < length modules → m ≡ get_or modules i m → owns ≡ owns_of texts modules
    → slice_get owns i ≡ Some own → own ≡ capped (module_own texts modules m)
own_is texts modules owns i m own lt is o g =
    same_Some _ _ (sym g ∙ ap (λ l. slice_get l i) o ∙ slice_get-map (λ x. capped (module_own texts modules x)) modules i
    ∙ ap (option_map (λ x. capped (module_own texts modules x))) (slice_get-get_or modules i m lt ∙ ap Some (sym is)))

pub next_from : (texts : Texts) (modules : List Module) (d : ℕ) (owns : List Sums) (i : ℕ) (m : Module) (own : Sums) (calls : List Call) (total : Total) (done after : List Total)
    → i < length modules → m ≡ get_or modules i m → owns ≡ owns_of texts modules → slice_get owns i ≡ Some own → calls ≡ calls_in m
    → ((before : Total) → record { sums = own; depth = 0 } ≡ capped_total before → total ≡ capped_total (add before (total_of texts modules (flat_map (of_call modules (standings modules d)) calls))))
    → done ≡ map (λ m. capped_total (total_of texts modules (standings modules (suc d) m))) (take i modules) → after ≡ done ++ total ∷ []
    → after ≡ map (λ m. capped_total (total_of texts modules (standings modules (suc d) m))) (take (i + 1) modules)
next_from texts modules d owns i m own calls total done after lt is o g cs t h a =
    next_more texts modules d i m own calls total done after lt is (own_is texts modules owns i m own lt is o g) cs t h a

pub same_number : (k n : ℕ) → n ≤ k → k ≤ n → k ≡ n
same_number k n a b = omega arith

pub got : {X : Type 0} (xs : List X) (i : ℕ) (x : X) → slice_get xs i ≡ Some x → x ≡ get_or xs i x
got [] i x h = absurd (none-some x h)
got (y ∷ xs) zero x h = sym (same_Some y x h)
got (y ∷ xs) (suc i) x h = got xs i x h

pub owns_more : (texts : Texts) (modules : List Module) (i : ℕ) (m : Module) (own : Sums) (done after : List Sums) → i < length modules
    → own ≡ capped (module_own texts modules (get_or modules i m)) → done ≡ map (λ m. capped (module_own texts modules m)) (take i modules) → after ≡ done ++ own ∷ []
    → after ≡ map (λ m. capped (module_own texts modules m)) (take (i + 1) modules)
owns_more texts modules i m own done after lt o h a =
    a ∙ ap₂ (λ l x. l ++ x ∷ []) h o ∙ sym (map_more (λ m. capped (module_own texts modules m)) modules i m lt)

pub main_total : (texts : Texts) (modules all : List Module) (id : ℕ) (total : Total) → all ≡ modules
    → total ≡ capped_total (total_of texts all (of_found (standings all 33) (named all id)))
    → total ≡ capped_total (total_of texts modules (of_found (standings modules 33) (named modules id)))
main_total texts modules all id total e h = h ∙ ap (λ ms. capped_total (total_of texts ms (of_found (standings ms 33) (named ms id)))) e
