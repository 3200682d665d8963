-- The items of a circuit that a text spells, with its `Reset`s resolved, are sound.
use Rattle.std.proofs.Common.{◌≡◌, ◌≢◌, ℕ, zero, suc, ◌+◌, ◌*◌, ◌<◌, ◌==◌, Bool, true, false, ◌&&◌, List, [], ◌∷◌, ◌++◌, map, drop, length, Option, Some, None, if◌then◌else◌, refl, sym, ap, ap₂, ◌∙◌, subst, append-nil, arith, ⊎_elim}
use Rattle.std.specs.Prelude.{slice_get, Contains, filter_map}
use Rattle.std.specs.List.{AllZip, filter, range_with_len, cons_option}
use Rattle.std.proofs.lemmas.Bool.{cases_eq, eq-eqb, ne_eqb}
use Rattle.std.proofs.lemmas.List.{length-map}
use Rattle.std.proofs.lemmas.List.Elements.{Contains-append_cases, Contains-append_right}
use Rattle.std.proofs.lemmas.List.FromFn.{length-map-range_with_len}
use Rattle.std.proofs.lemmas.Option.{none-some, same_Some}
use Rattle.place_text.specs.declared.place.Place.{Place}
use Rattle.prim_ops.specs.declared.widths.Width.{Width}
use Rattle.fir_layout.specs.declared.laid.Laid.{Laid}
use Rattle.fir_types.specs.Leaves.{leaves}
use Rattle.fir_tree.specs.declared.circuit.Circuit.{Circuit}
use Rattle.fir_tree.specs.declared.circuit.Module.{Module}
use Rattle.fir_tree.specs.declared.expr.Expr.{Expr}
use Rattle.fir_tree.specs.declared.print.PrintItem.{PrintItem}
use Rattle.fir_tree.specs.declared.scope.Fitted.{Fitted}
use Rattle.fir_tree.specs.declared.stmt.Stmt.{Stmt}
use Rattle.item_lines.specs.Formats.{shows}
use Rattle.item_lines.specs.Items.{Before, Item, in_block, stmts_of, wire_name, argument_name, number_in, padded, heads, modules_of}
use Rattle.fir_grammar.specs.Grammar.{IsCircuit}
use Rattle.reset_search.specs.Feeds.{all_ports}
use Rattle.reset_search.specs.Resolved.{IsResolved}
use Rattle.place_text.specs.First.{HasNone}
use Rattle.fir_names.specs.Faults.{IsFault}
use Rattle.fir_names.proofs.Members.{Contains-none, Contains-one, Contains-get, Contains-from_map}
use Rattle.fir_meaning.specs.Components.{Declaration, Component, TypedModule, A_node, design_of, module_at, component_named, told, declared_by_port, declared_in_block, declarations_of}
use Rattle.fir_meaning.specs.Components as components
use Rattle.fir_meaning.specs.WellTyped.{HasTypes, known_in, leaf_shape, is_typed_stmt, are_typed}
use Rattle.circuit_laws.specs.WellFormed.{IsWellFormed, IsKnownModule}
use Rattle.circuit_laws.proofs.Reached.{known_module, one_number}
use Rattle.circuit_laws.proofs.TypedModules.{module_values}
use Rattle.width_fit.specs.Fitting.{IsFitted}
use Rattle.width_laws.specs.Declared.{Typed}
use Rattle.width_laws.specs.Declared as declared
use Rattle.width_laws.proofs.Modules.{declarations_filled}
use Rattle.print_stop.specs.Wired.{IsItemWire}
use Rattle.print_stop.specs.RunItems.{item_of, prints_of, is_named, block_of, expression_in, node_expression, node_of}
use Rattle.print_stop.specs.Sound.{IsSound, IsArgumentNode}
use Rattle.found_items.specs.Finding.{HasItems, Has, item_texts, nodes_of}
use Rattle.found_items.proofs.Lists.{place_of}
use Rattle.item_laws.proofs.Numbers.{Grows, grows_twice, has_grown}
use Rattle.item_laws.proofs.Growing.{heads_grown, heads_have}
use Rattle.item_laws.proofs.Below.{all_are}
use Rattle.item_laws.proofs.Shown.{module_shown, spelled_shown}
use Rattle.item_laws.proofs.Nodes.{nodes, nodes_append, itself_in, node_declared, IsNode}
use Rattle.item_laws.proofs.Making.{IsMade, Makes, lines_make}
use Rattle.item_laws.proofs.Holding.{is_of, IsFrom, module_has, print_held, print_at, prints_counted}
use Rattle.item_laws.proofs.Heading.{heads_counted, drop_front, IsWire, wire_declared}
use Rattle.item_laws.proofs.Typing.{IsBit, behind_ports, ports_counted, wire_typed}
use Rattle.item_laws.proofs.Resolving.{turned, in_two, heads_stay, nodes_stay, IsTurned, turned_at}
use Rattle.item_laws.proofs.Filled.{get_back, IsFilledAt, component_filled, bit_filled, node_filled}

-- lists

in_range : (a n j : ℕ) → Contains (range_with_len a n) j → j < a + n
in_range a zero j i = absurd (Contains-none i)
in_range a (suc n) j i = ⊎_elim
    (λ here. let is = Contains-one here in omega (arith, is))
    (λ later. let less = in_range (a + 1) n j later in omega (arith, less))
    (Contains-append_cases (a ∷ []) (range_with_len (a + 1) n) j i)

each_found : (P : ℕ → Expr → Type 0) (number : ℕ → ℕ) (find : ℕ → Option Expr) (js : List ℕ) → ((j : ℕ) → Contains js j → (e : Expr) × (find j ≡ Some e) × P (number j) e)
    → AllZip P (map number js) (filter_map find js)
each_found P number find [] h = tt
each_found P number find (j ∷ js) h =
    let first = h j (0, omega arith, refl) in
    subst (λ (o : Option Expr). AllZip P (number j ∷ map number js) (cons_option o (filter_map find js))) (sym first.1)
    (first.2, each_found P number find js (λ i among. h i (Contains-append_right (j ∷ []) js i among)))

mapped_at : (cs : List Component) (ds : List Declaration) (k : ℕ) (d : Declaration) → map (λ c. c.declaration) cs ≡ ds → slice_get ds k ≡ Some d
    → (c : Component) × (slice_get cs k ≡ Some c) × (c.declaration ≡ d)
mapped_at cs ds k d e at = by cs k (ap (λ l. slice_get l k) e ∙ at)
  where
    by : (xs : List Component) (i : ℕ) → slice_get (map (λ c. c.declaration) xs) i ≡ Some d → (c : Component) × (slice_get xs i ≡ Some c) × (c.declaration ≡ d)
    by [] i h = absurd (none-some d h)
    by (x ∷ xs) zero h = (x, refl, same_Some x.declaration d h)
    by (x ∷ xs) (suc i) h = by xs i h

same_filter : (f g : PrintItem → Bool) (xs : List PrintItem) → ((x : PrintItem) → f x ≡ g x) → filter f xs ≡ filter g xs
same_filter f g [] h = refl
same_filter f g (x ∷ xs) h = ap₂ (λ (b : Bool) (l : List PrintItem). if b then x ∷ l else l) (h x) (same_filter f g xs h)

typed_behind : (m : TypedModule) (xs ys : List Stmt) → are_typed (known_in m) (xs ++ ys) ≡ true → are_typed (known_in m) ys ≡ true
typed_behind m [] ys t = t
typed_behind m (x ∷ xs) ys t = typed_behind m xs ys (right (is_typed_stmt (known_in m) x) (are_typed (known_in m) (xs ++ ys)) t)
  where
    right : (a b : Bool) → (a && b) ≡ true → b ≡ true
    right true b e = e
    right false b e = cc

-- components by their names

named_so : (m : TypedModule) (c : Component) (name : ℕ) → c.declaration.name ≡ name → component_named m c.declaration.name ≡ Some c → component_named m name ≡ Some c
named_so m c name same found = ap (component_named m) (sym same) ∙ found

expressed : (o : Option Component) (c : Component) (e : Expr) → o ≡ Some c → c.declaration.sort ≡ A_node e → node_expression o ≡ Some e
expressed o c e found sort = ap node_expression found ∙ ap expression_in sort

is_same : (c : Component) (d : Declaration) (name : ℕ) (e : Expr) → c.declaration ≡ d → IsNode d name e → (c.declaration.name ≡ name) × (c.declaration.sort ≡ A_node e)
is_same c d name e is node = (ap (λ (y : Declaration). y.name) is ∙ node.named, ap (λ (y : Declaration). y.sort) is ∙ node.sort)

-- the node of an argument
argument_node : (holder : Module) (m : TypedModule) (has : HasTypes holder m) (c : Component) (name : ℕ) (e : Expr) → Contains m.components c → component_named m c.declaration.name ≡ Some c
    → c.declaration.name ≡ name → c.declaration.sort ≡ A_node e → leaves c.typ ≡ record { path = []; flip = false; typ = c.typ } ∷ [] → IsArgumentNode m name e
argument_node holder m has c name e among found named sort only = record {
  node = c;
  named = named;
  declared = found;
  sort = sort;
  leaf = record { path = []; flip = false; typ = c.typ };
  only = only;
  path = refl;
  shape = λ f. module_values holder m has e (map leaf_shape (leaves c.typ)) (has.nodes c e among sort) f ∙ ap (map leaf_shape) only;
}

behind_heads : (o : Option Component) (c : Component) (n : ℕ) (xs ys : List Stmt) → o ≡ Some c → c.declaration.block ≡ xs ++ ys → length xs ≡ n → drop n (block_of o) ≡ ys
behind_heads o c n xs ys found block long = ap (λ o. drop n (block_of o)) found ∙ ap (drop n) block ∙ drop_front xs ys n long

-- the items of a module are those of its number
module _ (fitted : Fitted) (none : HasNone (IsFault fitted.checked.resolved)) (k : ℕ) (m : TypedModule) (here : slice_get (components.modules_of fitted) k ≡ Some m) where
  named_at : (j : ℕ) → is_named m.name (slice_get (components.modules_of fitted) j) ≡ (j == k)
  named_at j = ⊎_elim
      (λ e. ap (is_named m.name) (ap (slice_get (components.modules_of fitted)) e ∙ here) ∙ eq-eqb m.name m.name refl ∙ sym (eq-eqb j k e))
      (λ n. by n (slice_get (components.modules_of fitted) j) refl ∙ sym (ne_eqb j k n))
      (cases_eq j k)
    where
      by : j ≢ k → (o : Option TypedModule) → slice_get (components.modules_of fitted) j ≡ o → is_named m.name o ≡ false
      by n None e = refl
      by n (Some x) e = ne_eqb x.name m.name (λ same. n (one_number fitted none j k x m e here same))

  own_prints : (prints : List PrintItem) → prints_of (design_of fitted) prints m ≡ filter (is_of k) prints
  own_prints prints = same_filter _ _ prints (λ print. named_at print.«module»)

-- what the lines of a module stand for
module _ {texts : List (List ℕ)} {k : ℕ} {holder : Module} {own : List PrintItem} (from : IsFrom texts k holder own) where
  abbrev begin : Before
  begin = record { names = from.before; items = [] }

  abbrev made : List Stmt × Before
  made = in_block (map stmts_of from.lines.body) begin

  abbrev places : List Place
  places = map (λ (x : Item). x.place) made.1.items

  abbrev first : List Stmt × List (List ℕ)
  first = heads 0 places made.1.names

  body_is : holder.body ≡ first.0 ++ made.0
  body_is = ap (λ (h : Module). h.body) (sym from.holder_is)

  -- the module of the tree: the heads, and statements with the same nodes
  record IsInTree (other : Module) : Type 0 where
    rest : List Stmt
    body_are : other.body ≡ first.0 ++ rest
    nodes_are : nodes rest ≡ nodes made.0

  held_in : (reached : ℕ → Bool) (other : Module) (n : ℕ) → other.body ≡ turned reached holder.body n → IsInTree other
  held_in reached other n is =
      let both = in_two reached first.0 made.0 n in
      record {
        rest = turned reached made.0 both.from;
        body_are = is ∙ ap (λ ss. turned reached ss n) body_is ∙ both.is ∙ ap (λ ss. ss ++ turned reached made.0 both.from) (heads_stay reached 0 places made.1.names n);
        nodes_are = nodes_stay reached made.0 both.from;
      }

  makes : Makes texts begin made.1 (nodes made.0)
  makes = lines_make texts from.lines.body from.shown begin (grows_twice (heads_grown 0 places made.1.names) from.grown)

  counted : length own ≡ length made.1.items
  counted = ap length (sym from.own_are) ∙ prints_counted k 0 made.1.items

  -- item i of the module
  abbrev print_of : ℕ → Item → PrintItem
  print_of i x = record { «module» = k; number = i; stop = x.stop; pieces = x.pieces }

  record IsItem (print : PrintItem) : Type 0 where
    i : ℕ
    x : Item
    here : slice_get made.1.items i ≡ Some x
    is : print_of i x ≡ print

  item_is : (print : PrintItem) → Contains own print → IsItem print
  item_is print among =
      let p = print_at k 0 made.1.items print (subst (λ l. Contains l print) (sym from.own_are) among) in
      let same : p.at ≡ 0 + p.at = omega arith in
      record { i = p.at; x = p.item; here = p.here; is = ap (λ (n : ℕ). print_of n p.item) same ∙ p.is }

  module _ (i : ℕ) (x : Item) (here : slice_get made.1.items i ≡ Some x) where
    is_made : IsMade texts (nodes made.0) i x
    is_made = makes.each i x here (omega arith)

    place_at : slice_get places i ≡ Some x.place
    place_at = by made.1.items i here
      where
        by : (xs : List Item) (n : ℕ) → slice_get xs n ≡ Some x → slice_get (map (λ (y : Item). y.place) xs) n ≡ Some x.place
        by [] n h = absurd (none-some x h)
        by (y ∷ xs) zero h = ap (λ (z : Item). Some z.place) (same_Some y x h)
        by (y ∷ xs) (suc n) h = by xs n h

    wire_has : Has texts (wire_name i)
    wire_has =
        let same : 0 + i ≡ i = omega arith in
        subst (λ (n : ℕ). Has texts (wire_name n)) same (has_grown (wire_name (0 + i)) from.grown (heads_have 0 i places made.1.names x.place place_at))

    texts_have : (t : List ℕ) → Contains (item_texts (print_of i x)) t → Has texts t
    texts_have t among = ⊎_elim
        (λ wire. subst (Has texts) (sym (Contains-one wire)) wire_has)
        (λ argument.
        let from_map = Contains-from_map (argument_name i) (range_with_len 0 (shows x.pieces)) t argument in
        let less = in_range 0 (shows x.pieces) from_map.0 from_map.1 in
        subst (Has texts) from_map.2 (is_made.named from_map.0 (omega (arith, less))))
        (Contains-append_cases (wire_name i ∷ []) (map (argument_name i) (range_with_len 0 (shows x.pieces))) t among)

module _ (fitted : Fitted) (widths : List Width) (formed : IsWellFormed fitted) (fits : IsFitted fitted.checked widths fitted) where
  abbrev circuit : Circuit
  circuit = fitted.checked.resolved

  -- the module at a path
  module _ (path : List ℕ) (m : TypedModule) (stands : module_at (design_of fitted) path ≡ Some m) (known : IsKnownModule fitted m) (spelled : Module)
      (from : IsFrom circuit.names known.k spelled (prints_of (design_of fitted) circuit.prints m)) (held : IsInTree from known.holder) where
    -- a component at its place
    record IsAt (n : ℕ) (d : Declaration) : Type 0 where
      c : Component
      among : Contains m.components c
      is : c.declaration ≡ d
      named : component_named m c.declaration.name ≡ Some c
      fills : IsFilledAt circuit.modules known.holder n c

    component_at : (n : ℕ) (d : Declaration) → slice_get (declarations_of known.holder) n ≡ Some d → IsAt n d
    component_at n d e =
        let found = mapped_at m.components (declarations_of known.holder) n d known.typed.components e in
        let among = Contains-get m.components n found.0 found.1 in
        record {
          c = found.0;
          among = among;
          is = found.2;
          named = formed.bundles.names path m found.0 stands among;
          fills = component_filled circuit.modules circuit.modules fitted.declared known.k n known.holder m found.0 (declarations_filled fitted.checked widths fitted fits) known.here known.number found.1;
        }

    abbrev count : ℕ
    count = length (prints_of (design_of fitted) circuit.prints m)

    heads_long : length (first from).0 ≡ 2 * count
    heads_long = heads_counted 0 (places from) (made from).1.names ∙ ap (λ n. 2 * n) (length-map (made from).1.items (λ (x : Item). x.place) ∙ sym (counted from))

    module _ (i : ℕ) (x : Item) (here : slice_get (made from).1.items i ≡ Some x) where
      -- its wire

      abbrev block : List Stmt
      block = map (λ t. t.itself) (map told known.holder.body)

      wire : (d : Declaration) × (slice_get (components.declared_from block (map told ((first from).0 ++ held.rest))) i ≡ Some d) × IsWire block (number_in circuit.names (wire_name (0 + i))) d
      wire = wire_declared circuit.names 0 i (places from) (made from).1.names x.place block held.rest (place_at from i x here) from.grown

      wire_at : IsAt (length known.holder.ports + i) wire.0
      wire_at = component_at (length known.holder.ports + i) wire.0
          (get_back (map (declared_by_port known.holder.body) known.holder.ports) (declared_in_block (map told known.holder.body)) (length known.holder.ports) i (length-map known.holder.ports (declared_by_port known.holder.body))
          ∙ ap (λ ss. slice_get (components.declared_from block (map told ss)) i) held.body_are ∙ wire.1)

      wire_bit : IsBit wire_at.fills.declared
      wire_bit =
          let before : declared.Declared = behind_ports known.holder in
          let typed = wire_typed circuit.modules 0 i (places from) (made from).1.names x.place held.rest before.known (place_at from i x here) in
          let at : slice_get (declared.declared_in circuit.modules known.holder []).types (length known.holder.ports + i) ≡ Some typed.0
          = get_back before.types (declared.in_turn (map (declared.declared_by circuit.modules) known.holder.body) before.known).types (length known.holder.ports) i (ports_counted known.holder.ports [])
          ∙ ap (λ ss. slice_get (declared.in_turn (map (declared.declared_by circuit.modules) ss) before.known).types i) held.body_are ∙ typed.1 in
          subst IsBit (same_Some typed.0 wire_at.fills.declared (sym at ∙ wire_at.fills.here)) typed.2

      wire_named : wire_at.c.declaration.name ≡ number_in circuit.names (wire_name i)
      wire_named =
          let same : 0 + i ≡ i = omega arith in
          ap (λ (d : Declaration). d.name) wire_at.is ∙ wire.2.named ∙ ap (λ n. number_in circuit.names (wire_name n)) same

      wire_block : wire_at.c.declaration.block ≡ (first from).0 ++ held.rest
      wire_block = ap (λ (d : Declaration). d.block) wire_at.is ∙ wire.2.block_is ∙ itself_in known.holder.body ∙ held.body_are

      abbrev behind : List Stmt
      behind = drop (2 * count) (block_of (component_named m (number_in circuit.names (wire_name i))))

      behind_is : behind ≡ held.rest
      behind_is =
          behind_heads (component_named m (number_in circuit.names (wire_name i))) wire_at.c (2 * count) (first from).0 held.rest
          (named_so m wire_at.c (number_in circuit.names (wire_name i)) wire_named wire_at.named) wire_block heads_long

      wire_is : IsItemWire m wire_at.c behind
      wire_is = record {
        declared = wire_at.named;
        sort = ap (λ (d : Declaration). d.sort) wire_at.is ∙ wire.2.sort;
        one_bit = bit_filled wire_at.fills.declared wire_at.c.typ wire_bit wire_at.fills.fills;
        first = 0;
        places = places from;
        names = (made from).1.names;
        block = wire_block ∙ ap (λ ss. (first from).0 ++ ss) (sym behind_is);
        typed = ap (are_typed (known_in m)) behind_is
            ∙ typed_behind m (first from).0 held.rest (ap (are_typed (known_in m)) (sym held.body_are) ∙ known.typed.statements);
      }

      -- its arguments

      abbrev number : ℕ → ℕ
      number j = number_in circuit.names (argument_name i j)

      argument : (j : ℕ) → j < shows x.pieces → (e : Expr) × (node_expression (component_named m (number j)) ≡ Some e) × IsArgumentNode m (number j) e
      argument j less =
          let node = (is_made from i x here).made j less in
          let e : Expr = padded node.0 in
          let inside : Contains (nodes known.holder.body) (number j, e)
          = subst (λ ss. Contains (nodes ss) (number j, e)) (sym held.body_are) (subst (λ ns. Contains ns (number j, e)) (sym (nodes_append (first from).0 held.rest))
          (Contains-append_right (nodes (first from).0) (nodes held.rest) (number j, e) (subst (λ ns. Contains ns (number j, e)) (sym held.nodes_are) node.1))) in
          let d = node_declared known.holder (number j) e inside in
          let n = place_of (declarations_of known.holder) d.0 d.1 in
          let at = component_at n.0 d.0 n.1 in
          let is = is_same at.c d.0 (number j) e at.is d.2 in
          let alike = at.fills.alike.node e is.1 in (
            e,
            expressed (component_named m (number j)) at.c e (named_so m at.c (number j) is.0 at.named) is.1,
            argument_node known.holder m known.typed at.c (number j) e at.among at.named is.0 is.1
                (node_filled at.fills.declared at.c.typ node.0 alike.0 alike.1 at.fills.fills),
          )

      item_sound : IsSound (design_of fitted) (item_of circuit.names count path m (print_of from i x)) (nodes_of circuit.names (print_of from i x))
      item_sound = record {
        m = m;
        stands = stands;
        wire = wire_at.c;
        named = wire_named;
        is = wire_is;
        arguments = each_found (IsArgumentNode m) number (λ j. node_expression (component_named m (node_of circuit.names (print_of from i x) j))) (range_with_len 0 (shows x.pieces))
            (λ j among. let less = in_range 0 (shows x.pieces) j among in argument j (omega (arith, less)));
        shown = length-map-range_with_len number 0 (shows x.pieces);
        silent = (is_made from i x here).silent;
      }

-- The items are sound in a well formed circuit that is one that a text spells with its `Reset`s resolved.
pub spelled_items : (text : List ℕ) (list : List Laid) (circuit : Circuit) (fitted : Fitted) (widths : List Width) → IsCircuit text list circuit → IsResolved circuit fitted.checked.resolved
    → IsWellFormed fitted → IsFitted fitted.checked widths fitted → HasItems fitted.checked.resolved.names (design_of fitted) fitted.checked.resolved.prints
spelled_items text list circuit fitted widths is turns formed fits = record {
  named = λ print t among inside.
      let held = print_held tree.names 0 is.lines is.names print shown grown (subst (λ ps. Contains ps print) prints_are among) in
      let item = item_is held.from print held.among in
      texts_have held.from item.i item.x item.here t (subst (λ p. Contains (item_texts p) t) (sym item.is) inside);
  sound = λ path m print stands among.
      let known = known_module fitted formed path m stands in
      let other = spelled_at m known in
      let from = module_from m known other in
      let item = item_is from print among in
      subst (λ p. IsSound (design_of fitted) (item_of tree.names (length (prints_of (design_of fitted) tree.prints m)) path m p) (nodes_of tree.names p)) item.is
      (item_sound fitted widths formed fits path m stands known other.spelled from (held_in from turns.reached known.holder other.from other.body_is) item.i item.x item.here);
}
  where
    tree : Circuit
    tree = fitted.checked.resolved

    prints_are : tree.prints ≡ (modules_of 0 is.lines is.names).0.1
    prints_are = ap (λ (c : Circuit). c.prints) turns.is ∙ ap (λ (c : Circuit). c.prints) is.is

    grown : Grows (modules_of 0 is.lines is.names).1 tree.names
    grown = record { more = []; are = ap (λ (c : Circuit). c.names) turns.is ∙ ap (λ (c : Circuit). c.names) is.is ∙ sym (append-nil (modules_of 0 is.lines is.names).1) }

    shown : all_are (map module_shown is.lines) ≡ true
    shown = spelled_shown text list is.major circuit.main is.lines is.names is.spelled

    spelled_at : (m : TypedModule) (known : IsKnownModule fitted m) → IsTurned turns.reached circuit.modules known.k known.holder
    spelled_at m known =
        turned_at turns.reached 0 (all_ports circuit.modules) circuit.modules known.k known.holder (ap (λ (c : Circuit). slice_get c.modules known.k) (sym turns.is) ∙ known.here)

    module_from : (m : TypedModule) (known : IsKnownModule fitted m) (other : IsTurned turns.reached circuit.modules known.k known.holder)
        → IsFrom tree.names known.k other.spelled (prints_of (design_of fitted) tree.prints m)
    module_from m known other =
        subst (IsFrom tree.names known.k other.spelled) (sym (own_prints fitted formed.names known.k m known.number tree.prints ∙ ap (filter (is_of known.k)) prints_are))
        (module_has tree.names known.k is.lines is.names other.spelled shown (ap (λ (c : Circuit). slice_get c.modules known.k) (sym is.is) ∙ other.here) grown)
