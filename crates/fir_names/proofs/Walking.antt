-- One part walked behind another.
use Rattle.std.proofs.Common.{◌≡◌, ℕ, ◌+◌, List, [], ◌∷◌, ◌++◌, map, length, take, refl, sym, ap, ap₂, ◌∙◌, arith, append_assoc, append-nil, length-append, get_or, ◌<◌, Bool, true, false, if◌then◌else◌}
use Rattle.std.specs.Prelude.{is_some, cond, nat_eq, Option, Some, None}
use Rattle.std.proofs.lemmas.Grind.{common_steps}
use Rattle.std.proofs.lemmas.List.{map-append, nil_from_length}
use Rattle.std.proofs.lemmas.List.Concat.{flat_map-append}
use Rattle.std.specs.List.{flat_map}
use Rattle.fir_types.specs.declared.name.Name.{Name}
use Rattle.fir_names.specs.declared.walk.Walk.{Walk}
use Rattle.fir_names.specs.Extents.{Seen}
use Rattle.fir_names.specs.Parts.{Part, nothing, mentions, declares, joined, in_turn, module_part}
use Rattle.fir_tree.proofs.Turns.{Turns, walks_push as one_more}
use Rattle.fir_names.proofs.Agreement.{sees_its_blocks, declares_its_names, has_its_instances}
use Rattle.fir_tree.specs.declared.circuit.Module.{Module}
use Rattle.fir_names.specs.declared.fault.NameFault.TheVariants.{NameUnknown}
use Rattle.fir_names.specs.Walks.{first_of, kept_with, kept_from, kept_of, number_or, fault_unless, number_in, fault_in, number_of, fault_of, Walks, HasWalked}
use Rattle.std.proofs.lemmas.Bool.{eqb-true}

kept_step : (kept : List Seen) (s : Seen) (b : Bool) → is_some (first_of kept s.0) ≡ b → (more : List Seen) × (kept_with kept s ≡ kept ++ more)
kept_step kept s true e = ([], ap (λ c. if c then kept else kept ++ s ∷ []) e ∙ sym (append-nil kept))
kept_step kept s false e = (s ∷ [], ap (λ c. if c then kept else kept ++ s ∷ []) e)

-- what is kept goes on
kept_onward : (kept seen : List Seen) → (more : List Seen) × (kept_from kept seen ≡ kept ++ more)
kept_onward kept [] = ([], sym (append-nil kept))
kept_onward kept (s ∷ ss) =
    let one = kept_step kept s (is_some (first_of kept s.0)) refl in
    let rest = kept_onward (kept_with kept s) ss in
    (one.0 ++ rest.0, rest.1 ∙ ap (λ k. k ++ rest.0) one.1 ∙ append_assoc kept one.0 rest.0)

kept_from-append : (kept xs ys : List Seen) → kept_from kept (xs ++ ys) ≡ kept_from (kept_from kept xs) ys
kept_from-append kept [] ys = refl
kept_from-append kept (x ∷ xs) ys = kept_from-append (kept_with kept x) xs ys

take_front : {X : Type 0} (xs ys : List X) → take (length xs) (xs ++ ys) ≡ xs
take_front xs ys = grind (arith, common_steps)

kept-front : (seen shown : List Seen) → take (length (kept_of seen)) (kept_of (seen ++ shown)) ≡ kept_of seen
unfolding kept_of
kept-front seen shown =
    let more = kept_onward (kept_from [] seen) shown in
    ap (take (length (kept_from [] seen))) (kept_from-append [] seen shown ∙ more.1) ∙ take_front (kept_from [] seen) more.0

pub kept-push : (seen : List Seen) (s : Seen) → kept_with (kept_of seen) s ≡ kept_of (seen ++ s ∷ [])
unfolding kept_of
kept-push seen s = sym (kept_from-append [] seen (s ∷ []))

-- a part is one part and then another
pub record IsThen (whole first second : Part) : Type 0 where
  pub shows : (n : ℕ) → whole.shows n ≡ first.shows n ++ second.shows (n + length first.declares)
  pub declares : whole.declares ≡ first.declares ++ second.declares
  pub instances : whole.instances ≡ first.instances ++ second.instances
  pub uses : (seen : List Seen) (n : ℕ) → whole.uses seen n ≡ first.uses seen n ++ second.uses (seen ++ first.shows n) (n + length first.declares)

pub plainly : (p q : Part) → IsThen (joined p q) p q
plainly p q = record { shows = λ n. refl; declares = refl; instances = refl; uses = λ seen n. refl }

pub mentions-append : (xs ys : List Name) → IsThen (mentions (xs ++ ys)) (mentions xs) (mentions ys)
mentions-append xs ys = record { shows = λ n. refl; declares = refl; instances = refl; uses = λ seen n. grind (arith, common_steps) }

same_part : {p q : Part} → ((n : ℕ) → p.shows n ≡ q.shows n) → p.declares ≡ q.declares → p.instances ≡ q.instances
    → ((seen : List Seen) (n : ℕ) → p.uses seen n ≡ q.uses seen n) → p ≡ q
same_part shows declares instances uses = λ i. record { shows = λ n. shows n i; declares = declares i; instances = instances i; uses = λ seen n. uses seen n i }

alone : (p : Part) → joined nothing p ≡ joined p nothing
alone p = same_part
    (λ n. ap p.shows (omega arith) ∙ sym (append-nil (p.shows n)))
    (sym (append-nil p.declares))
    (sym (append-nil p.instances))
    (λ seen n. ap₂ p.uses (append-nil seen) (omega arith) ∙ sym (append-nil (p.uses seen n)))

either : (p q r : Part) → joined (joined p q) r ≡ joined p (joined q r)
either p q r =
    let m : (n : ℕ) → n + length (p.declares ++ q.declares) ≡ (n + length p.declares) + length q.declares
    = λ n. omega (arith, length-append p.declares q.declares) in
    same_part
    (λ n. ap (λ k. (p.shows n ++ q.shows (n + length p.declares)) ++ r.shows k) (m n) ∙ append_assoc (p.shows n) _ _)
    (append_assoc p.declares _ _)
    (append_assoc p.instances _ _)
    (λ seen n. ap₂ (λ s k. (p.uses seen n ++ q.uses (seen ++ p.shows n) (n + length p.declares)) ++ r.uses s k) (sym (append_assoc seen (p.shows n) _)) (m n)
    ∙ append_assoc (p.uses seen n) _ _)

turns : Turns joined nothing
turns = record { alone = alone; either = either }

after : {p : Part} {a b : Walk} → Walks p a b → length b.declared.items ≡ length a.declared.items + length p.declares
after {p} {a} h = ap length h.declared ∙ length-append a.declared.items p.declares

pub walks_then : {whole p q : Part} {a b c : Walk} → IsThen whole p q → Walks p a b → Walks q b c → Walks whole a c
walks_then {whole} {p} {q} {a} {b} {c} w h k =
    let n = length a.declared.items in
    let m = after h in
    record {
      declared = k.declared ∙ ap (λ l. l ++ q.declares) h.declared ∙ append_assoc a.declared.items p.declares q.declares ∙ ap (λ l. a.declared.items ++ l) (sym w.declares);
      instances = k.instances ∙ ap (λ l. l ++ q.instances) h.instances ∙ append_assoc a.instances.items p.instances q.instances ∙ ap (λ l. a.instances.items ++ l) (sym w.instances);
      visible = λ seen e. k.visible (seen ++ p.shows n) (h.visible seen e)
          ∙ ap kept_of (append_assoc seen (p.shows n) _ ∙ ap (λ l. seen ++ l) (ap (λ i. p.shows n ++ q.shows i) m ∙ sym (w.shows n)));
      uses = λ seen e. k.uses (seen ++ p.shows n) (h.visible seen e) ∙ ap (λ l. l ++ map number_of (q.uses (seen ++ p.shows n) (length b.declared.items))) (h.uses seen e)
          ∙ append_assoc a.uses.items _ _
          ∙ ap (λ l. a.uses.items ++ l) (sym (map-append number_of (p.uses seen n) _) ∙ ap (map number_of) (ap (λ i. p.uses seen n ++ q.uses (seen ++ p.shows n) i) m ∙ sym (w.uses seen n)));
      faults = λ seen e. k.faults (seen ++ p.shows n) (h.visible seen e) ∙ ap (λ l. l ++ flat_map fault_of (q.uses (seen ++ p.shows n) (length b.declared.items))) (h.faults seen e)
          ∙ append_assoc a.faults.items _ _
          ∙ ap (λ l. a.faults.items ++ l) (sym (flat_map-append fault_of (p.uses seen n) _) ∙ ap (flat_map fault_of) (ap (λ i. p.uses seen n ++ q.uses (seen ++ p.shows n) i) m ∙ sym (w.uses seen n)));
    }

pub walks_nothing : (a : Walk) → Walks nothing a a
walks_nothing a = record {
  declared = sym (append-nil _);
  instances = sym (append-nil _);
  visible = λ seen e. e ∙ ap kept_of (sym (append-nil seen));
  uses = λ seen e. sym (append-nil _);
  faults = λ seen e. sym (append-nil _);
}

-- one more of parts in turn
pub walks_push : {X : Type 0} (part : X → Part) (xs : List X) (i : ℕ) (x : X) {a b c : Walk} → i < length xs → x ≡ get_or xs i x
    → Walks (in_turn (map part (take i xs))) a b → Walks (part x) b c → Walks (in_turn (map part (take (i + 1) xs))) a c
walks_push part xs i x lt is h k = one_more Walks turns (λ p q a b c g l. walks_then (plainly p q) g l) part xs i x lt is h k

-- a block ends
pub walks_shut : (p : Part) {a b c : Walk} → Walks p a b → c.declared.items ≡ b.declared.items → c.instances.items ≡ b.instances.items → c.uses.items ≡ b.uses.items
    → c.faults.items ≡ b.faults.items → c.visible.entries ≡ take (length a.visible.entries) b.visible.entries → Walks (record p { shows = λ n. [] }) a c
walks_shut p {a} {b} {c} h declared instances uses faults visible = record {
  declared = declared ∙ h.declared;
  instances = instances ∙ h.instances;
  visible = λ seen e. visible ∙ ap₂ (λ s t. take (length s) t) e (h.visible seen e) ∙ kept-front seen (p.shows (length a.declared.items)) ∙ ap kept_of (sym (append-nil seen));
  uses = λ seen e. uses ∙ h.uses seen e;
  faults = λ seen e. faults ∙ h.faults seen e;
}

-- What is kept has the same first declarations.

abbrev or_else : Option ℕ → Option ℕ → Option ℕ
or_else (Some x) o = Some x
or_else None o = o

first_of-append : (xs ys : List Seen) (text : ℕ) → first_of (xs ++ ys) text ≡ or_else (first_of xs text) (first_of ys text)
first_of-append [] ys text = refl
first_of-append (x ∷ xs) ys text = by (nat_eq text x.0) (first_of-append xs ys text)
  where
    by : (b : Bool) → first_of (xs ++ ys) text ≡ or_else (first_of xs text) (first_of ys text)
        → cond b (Some x.1) (first_of (xs ++ ys) text) ≡ or_else (cond b (Some x.1) (first_of xs text)) (first_of ys text)
    by true h = refl
    by false h = h

-- behind what is kept a declaration says something new only where its text is new
first_of-kept_with : (kept : List Seen) (s : Seen) (ss : List Seen) (text : ℕ)
    → or_else (first_of (kept_with kept s) text) (first_of ss text) ≡ or_else (first_of kept text) (first_of (s ∷ ss) text)
first_of-kept_with kept s ss text = by (first_of kept s.0) refl
  where
    known : (v : ℕ) → first_of kept s.0 ≡ Some v → (b : Bool) → nat_eq text s.0 ≡ b
        → or_else (first_of kept text) (first_of ss text) ≡ or_else (first_of kept text) (cond b (Some s.1) (first_of ss text))
    known v e true same = let is : first_of kept text ≡ Some v = ap (first_of kept) (eqb-true text s.0 same) ∙ e in rw is refl
    known v e false other = refl

    by : (o : Option ℕ) → first_of kept s.0 ≡ o → or_else (first_of (kept_with kept s) text) (first_of ss text) ≡ or_else (first_of kept text) (first_of (s ∷ ss) text)
    by (Some v) e = ap (λ (o : Option ℕ). or_else (first_of (if is_some o then kept else kept ++ s ∷ []) text) (first_of ss text)) e ∙ known v e (nat_eq text s.0) refl
    by None e = ap (λ (o : Option ℕ). or_else (first_of (if is_some o then kept else kept ++ s ∷ []) text) (first_of ss text)) e
        ∙ ap (λ o. or_else o (first_of ss text)) (first_of-append kept (s ∷ []) text) ∙ both (first_of kept text) (nat_eq text s.0)
      where
        both : (o : Option ℕ) (b : Bool) → or_else (or_else o (cond b (Some s.1) None)) (first_of ss text) ≡ or_else o (cond b (Some s.1) (first_of ss text))
        both (Some x) b = refl
        both None true = refl
        both None false = refl

first_of-kept_from : (kept seen : List Seen) (text : ℕ) → first_of (kept_from kept seen) text ≡ or_else (first_of kept text) (first_of seen text)
first_of-kept_from kept [] text = nothing_more (first_of kept text)
  where
    nothing_more : (o : Option ℕ) → o ≡ or_else o None
    nothing_more (Some x) = refl
    nothing_more None = refl
first_of-kept_from kept (s ∷ ss) text = first_of-kept_from (kept_with kept s) ss text ∙ first_of-kept_with kept s ss text

pub first_of-kept : (seen : List Seen) (text : ℕ) → first_of (kept_of seen) text ≡ first_of seen text
unfolding kept_of
first_of-kept seen text = first_of-kept_from [] seen text

numbers_kept : (seen : List Seen) (names : List Name) → map (number_in (kept_of seen)) names ≡ map number_of ((mentions names).uses seen 0)
numbers_kept seen [] = refl
numbers_kept seen (x ∷ xs) = ap₂ (λ n ns. n ∷ ns) (ap number_or (first_of-kept seen x.id)) (numbers_kept seen xs)

faults_kept : (seen : List Seen) (names : List Name) → flat_map (fault_in NameUnknown (kept_of seen)) names ≡ flat_map fault_of ((mentions names).uses seen 0)
faults_kept seen [] = refl
faults_kept seen (x ∷ xs) = ap₂ (λ n ns. n ++ ns) (ap (λ o. fault_unless o (NameUnknown x.place)) (first_of-kept seen x.id)) (faults_kept seen xs)

pub walks_mention : (names : List Name) {a b : Walk} → b.declared.items ≡ a.declared.items → b.instances.items ≡ a.instances.items → b.visible.entries ≡ a.visible.entries
    → b.uses.items ≡ a.uses.items ++ map (number_in a.visible.entries) names → b.faults.items ≡ a.faults.items ++ flat_map (fault_in NameUnknown a.visible.entries) names
    → Walks (mentions names) a b
walks_mention names {a} {b} declared instances visible uses faults = record {
  declared = declared ∙ sym (append-nil _);
  instances = instances ∙ sym (append-nil _);
  visible = λ seen e. visible ∙ e ∙ ap kept_of (sym (append-nil seen));
  uses = λ seen e. uses ∙ ap (λ l. a.uses.items ++ l) (ap (λ v. map (number_in v) names) e ∙ numbers_kept seen names);
  faults = λ seen e. faults ∙ ap (λ l. a.faults.items ++ l) (ap (λ v. flat_map (fault_in NameUnknown v) names) e ∙ faults_kept seen names);
}

pub walks_declare : (name : Name) {a b : Walk} → b.declared.items ≡ a.declared.items ++ name ∷ [] → b.instances.items ≡ a.instances.items
    → b.visible.entries ≡ kept_with a.visible.entries (name.id, length a.declared.items) → b.uses.items ≡ a.uses.items → b.faults.items ≡ a.faults.items
    → Walks (declares name) a b
walks_declare name {a} {b} declared instances visible uses faults = record {
  declared = declared;
  instances = instances ∙ sym (append-nil _);
  visible = λ seen e. visible ∙ ap (λ v. kept_with v (name.id, length a.declared.items)) e ∙ kept-push seen (name.id, length a.declared.items);
  uses = λ seen e. uses ∙ sym (append-nil _);
  faults = λ seen e. faults ∙ sym (append-nil _);
}

pub nothing_kept : kept_of [] ≡ []
unfolding kept_of
nothing_kept = refl

pub walked_all : (holder : Module) {a b : Walk} → Walks (module_part holder) a b
    → a.declared.items ≡ [] → a.instances.items ≡ [] → length a.visible.entries ≡ 0 → a.uses.items ≡ [] → a.faults.items ≡ [] → HasWalked holder b
walked_all holder {a} {b} h no_declared no_instances no_visible no_uses no_faults =
    let none = nil_from_length a.visible.entries no_visible ∙ sym nothing_kept in
    let n : length a.declared.items ≡ 0 = ap length no_declared in
    record {
      declared = h.declared ∙ ap (λ l. l ++ (module_part holder).declares) no_declared ∙ declares_its_names holder;
      instances = h.instances ∙ ap (λ l. l ++ (module_part holder).instances) no_instances ∙ has_its_instances holder;
      uses = h.uses [] none ∙ ap₂ (λ l k. l ++ map number_of ((module_part holder).uses [] k)) no_uses n ∙ ap (map number_of) (sees_its_blocks holder);
      faults = h.faults [] none ∙ ap₂ (λ l k. l ++ flat_map fault_of ((module_part holder).uses [] k)) no_faults n ∙ ap (flat_map fault_of) (sees_its_blocks holder);
    }
