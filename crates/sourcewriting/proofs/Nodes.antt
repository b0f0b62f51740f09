-- The nodes of a proof, with one label or one node more.
use Rattle.std.proofs.Common.{◌≡◌, ◌∙◌, ◌<◌, ◌≤◌, ◌+◌, ◌-◌, ℕ, Bool, true, false, cond, List, [], ◌∷◌, ◌++◌, length, take, drop, Vec, Global, refl, sym, ap, subst, inl, inr, arith}
use Rattle.std.specs.Prelude.{All, Option, Some, None, MatchOption, ◌⊎◌, slice_get, slice_range}
use Rattle.std.specs.Option.{option_and_then, unwrap_or}
use Rattle.std.specs.List.{AllByRecursion}
use Rattle.std.specs.Borrow.{Bor}
use Rattle.std.specs.Str.{bytes_eq}
use Rattle.std.specs.Cmp.Lexicographic.{nat_list_eq_equiv, bytes_decides}
use Rattle.std.specs.HashMap as hash
use Rattle.std.specs.HashMap.{HashMap, get_by}
use Rattle.std.specs.Map.{KeepsOthers, IsKeyTest, AreApart, lookup}
use Rattle.std.specs.declared.random_state.RandomState.{RandomState}
use Rattle.std.proofs.lemmas.Bool.{cases_lt}
use Rattle.std.proofs.lemmas.List.{length-append, length_push, take_all}
use Rattle.std.proofs.lemmas.List.Elements.{recursion_from_All}
use Rattle.std.proofs.lemmas.Map.Text.{hash_map_updates_str}
use Rattle.std.proofs.lemmas.Option.{slice_get_within, slice_get_cases, same_Some}
use Rattle.std.proofs.Math.Seq.{drop-append_seam}
use Rattle.mmtext.specs.Words.{Word}
use Rattle.mmsyntax.proofs.Names.{same_bytes, apart}
use Rattle.taking.proofs.Values.{get_front, get_last}
use Rattle.taking.proofs.Kept.{range_front}
use Rattle.sourcewriting.specs.declared.shared.CountedLabel.{CountedLabel}
use Rattle.sourcewriting.specs.declared.shared.Node.{Node}
use Rattle.sourcewriting.specs.declared.shared.Shared.{Shared}
use Rattle.sourcewriting.specs.Nodes.{arguments_of, arguments_in, in_node, IsNode, AreNodes, IsNumbered, IsTakenAlike}
use Rattle.sourcewriting.specs.Reading.{find_in}
use Rattle.sourcewriting.proofs.Told.{contained}

-- ---- places of lists

range_behind : (xs ys zs : List ℕ) → zs ≡ xs ++ ys → slice_range zs (length xs) (length zs) ≡ ys
range_behind xs ys zs is =
    let n : length zs - length xs ≡ length ys = omega (arith, ap length is, length-append xs ys) in
    ap (λ m. take m (drop (length xs) zs)) n
    ∙ ap (λ (ws : List ℕ). take (length ys) (drop (length xs) ws)) is
    ∙ ap (take (length ys)) (drop-append_seam xs ys)
    ∙ take_all (length ys) ys (omega arith)

got_more : {A : Type 0} (xs ys : List A) (x : A) (i : ℕ) (y : A) → ys ≡ xs ++ x ∷ [] → slice_get xs i ≡ Some y → slice_get ys i ≡ Some y
got_more xs ys x i y is at =
    ap (λ zs. slice_get zs i) is ∙ get_front xs x i (slice_get_within xs i y at) ∙ at

-- ---- what is found by a list

same_list : (bs cs : List ℕ) → bytes_eq bs cs ≡ true → bs ≡ cs
same_list bs cs e = (bytes_decides bs cs).0 e

others : (test : Vec ℕ Global → Bool) (m n : HashMap (Vec ℕ Global) ℕ RandomState)
    → KeepsOthers (λ x y. bytes_eq x.items y.items) test m.entries n.entries → (other : Vec ℕ Global → Bool)
    → IsKeyTest (λ x y. bytes_eq x.items y.items) other → AreApart test other → lookup other n.entries ≡ lookup other m.entries
unfolding KeepsOthers
others test m n keeps = keeps

-- a number is put at a list: there it is found, and at others what was
pub found_then : (bs : List ℕ) (m n : HashMap (Vec ℕ Global) ℕ RandomState) (x : ℕ)
    → hash.UpdatesBy (λ x y. bytes_eq x.items y.items) (λ k. bytes_eq bs k.items) m n (Some x) → (cs : List ℕ) (b : Bool)
    → bytes_eq bs cs ≡ b → get_by (λ k. bytes_eq cs k.items) n ≡ cond b (Some x) (get_by (λ k. bytes_eq cs k.items) m)
found_then bs m n x updates cs true e =
    subst (λ l. get_by (λ k. bytes_eq l k.items) n ≡ Some x) (same_list bs cs e) updates.1
found_then bs m n x updates cs false e =
    others (λ k. bytes_eq bs k.items) m n updates.3 (λ k. bytes_eq cs k.items) (λ x y. nat_list_eq_equiv.congr cs x.items y.items)
    (λ k. apart bs cs k.items e)

-- ---- labels

-- a label that has a number
pub number_there : (s : Shared) (w : Word) (takes k : ℕ) → IsTakenAlike s.words.items w takes → AreNodes s
    → get_by (λ x. bytes_eq w x.now) s.numbers ≡ Some k → IsNumbered s w takes k
number_there s w takes k alike sound at =
    let there = sound.labelled w k at in
    record {
      label = there.0;
      named = there.1;
      labelled = there.2;
      many = alike there.0 (contained s.words.items k there.0 there.1) there.2;
      found = at;
    }

module _ (s t : Shared) (label : CountedLabel) (sound : AreNodes s) (nodes : t.nodes ≡ s.nodes) (arguments : t.arguments ≡ s.arguments)
    (places : t.places ≡ s.places) (words : t.words.items ≡ s.words.items ++ label ∷ [])
    (absent : get_by (λ k. bytes_eq label.label.now k.now) s.numbers ≡ None)
    (updates : hash.UpdatesBy (λ x y. bytes_eq x.now y.now) (λ k. bytes_eq label.label.now k.now) s.numbers t.numbers
    (Some (length s.words.items))) where
  found_at : (w : Word) → get_by (λ k. bytes_eq w k.now) t.numbers
      ≡ cond (bytes_eq label.label.now w) (Some (length s.words.items)) (get_by (λ k. bytes_eq w k.now) s.numbers)
  found_at w = hash_map_updates_str label.label.now s.numbers t.numbers (Some (length s.words.items)) updates w

  still : (w : Word) (k : ℕ) (b : Bool) → bytes_eq label.label.now w ≡ b → get_by (λ k. bytes_eq w k.now) s.numbers ≡ Some k
      → cond b (Some (length s.words.items)) (get_by (λ k. bytes_eq w k.now) s.numbers) ≡ Some k
  still w k true e at =
      let none : get_by (λ k. bytes_eq w k.now) s.numbers ≡ None =
      subst (λ w. get_by (λ k. bytes_eq w k.now) s.numbers ≡ None) (same_bytes label.label.now w e) absent in absurd cc
  still w k false e at = at

  each_kept : (n : ℕ) (d : Node) → IsNode s n d → IsNode t n d
  each_kept n d is = record {
    order = is.order;
    within = subst (λ (a : Vec ℕ Global). d.end ≤ length a.items) (sym arguments) is.within;
    below = subst (λ (a : Vec ℕ Global). All (λ k. k < n) (slice_range a.items d.begin d.end)) (sym arguments) is.below;
    label = is.label;
    named = got_more s.words.items t.words.items label d.word is.label words is.named;
    numbered = found_at is.label.label.now ∙ still is.label.label.now d.word (bytes_eq label.label.now is.label.label.now) refl is.numbered;
    many = ap (λ (a : Vec ℕ Global). length (slice_range a.items d.begin d.end)) arguments ∙ is.many;
    found =
        ap (λ (a : Vec ℕ Global). get_by (λ k. bytes_eq (d.word ∷ slice_range a.items d.begin d.end) k.items) t.places) arguments
        ∙ ap (get_by (λ k. bytes_eq (d.word ∷ arguments_of s d) k.items)) places ∙ is.found;
  }

  labelled_at : (w : Word) (k : ℕ) (b : Bool) → bytes_eq label.label.now w ≡ b
      → cond b (Some (length s.words.items)) (get_by (λ k. bytes_eq w k.now) s.numbers) ≡ Some k
      → (c : CountedLabel) × (slice_get t.words.items k ≡ Some c) × (c.label.now ≡ w)
  labelled_at w k true e at =
      let same : length s.words.items ≡ k = same_Some (length s.words.items) k at in (
        label,
        ap (λ ws. slice_get ws k) words ∙ ap (slice_get (s.words.items ++ label ∷ [])) (sym same) ∙ get_last s.words.items label,
        same_bytes label.label.now w e,
      )
  labelled_at w k false e at =
      let there = sound.labelled w k at in
      (there.0, got_more s.words.items t.words.items label k there.0 words there.1, there.2)

  -- one more label
  pub number_more : AreNodes t
  number_more = record {
    each = λ n d at. each_kept n d (sound.each n d (ap (λ (ns : Vec Node Global). slice_get ns.items n) (sym nodes) ∙ at));
    labelled = λ w k at. labelled_at w k (bytes_eq label.label.now w) refl (sym (found_at w) ∙ at);
    there = λ key n at.
        subst (λ (ns : Vec Node Global). n < length ns.items) (sym nodes)
        (sound.there key n (ap (get_by (λ k. bytes_eq key k.items)) (sym places) ∙ at));
  }

  -- and its number
  pub number_put : IsNumbered t label.label.now label.takes (length s.words.items)
  number_put = record {
    label = label;
    named = ap (λ ws. slice_get ws (length s.words.items)) words ∙ get_last s.words.items label;
    labelled = refl;
    many = refl;
    found = updates.1;
  }

-- ---- nodes

module _ (s t : Shared) (w : Word) (number : ℕ) (args : List ℕ) (d : Node) (sound : AreNodes s)
    (numbered : IsNumbered s w (length args) number) (below : All (λ a. a < length s.nodes.items) args) (words : t.words ≡ s.words)
    (numbers : t.numbers ≡ s.numbers) (arguments : t.arguments.items ≡ s.arguments.items ++ args)
    (nodes : t.nodes.items ≡ s.nodes.items ++ d ∷ []) (word : d.word ≡ number) (begin : d.begin ≡ length s.arguments.items)
    (end : d.end ≡ length t.arguments.items) (absent : get_by (λ k. bytes_eq (number ∷ args) k.items) s.places ≡ None)
    (updates : hash.UpdatesBy (λ x y. bytes_eq x.items y.items) (λ k. bytes_eq (number ∷ args) k.items) s.places t.places
    (Some (length s.nodes.items))) where
  long : length t.arguments.items ≡ length s.arguments.items + length args
  long = ap length arguments ∙ length-append s.arguments.items args

  more_nodes : length t.nodes.items ≡ length s.nodes.items + 1
  more_nodes = ap length nodes ∙ length_push s.nodes.items d

  found_by : (key : List ℕ) → get_by (λ k. bytes_eq key k.items) t.places
      ≡ cond (bytes_eq (number ∷ args) key) (Some (length s.nodes.items)) (get_by (λ k. bytes_eq key k.items) s.places)
  found_by key = found_then (number ∷ args) s.places t.places (length s.nodes.items) updates key (bytes_eq (number ∷ args) key) refl

  kept_at : (key : List ℕ) (n : ℕ) (b : Bool) → bytes_eq (number ∷ args) key ≡ b → get_by (λ k. bytes_eq key k.items) s.places ≡ Some n
      → cond b (Some (length s.nodes.items)) (get_by (λ k. bytes_eq key k.items) s.places) ≡ Some n
  kept_at key n true e at =
      let none : get_by (λ k. bytes_eq key k.items) s.places ≡ None =
      subst (λ key. get_by (λ k. bytes_eq key k.items) s.places ≡ None) (same_list (number ∷ args) key e) absent in absurd cc
  kept_at key n false e at = at

  old_node : (n : ℕ) (x : Node) → IsNode s n x → IsNode t n x
  old_node n x is =
      let same : arguments_of t x ≡ arguments_of s x =
      ap (λ (xs : List ℕ). slice_range xs x.begin x.end) arguments
      ∙ range_front s.arguments.items args x.begin x.end is.order is.within in
      record {
        order = is.order;
        within = omega (arith, long, is.within);
        below = subst (All (λ k. k < n)) (sym same) is.below;
        label = is.label;
        named = ap (λ (ws : Vec CountedLabel Global). slice_get ws.items x.word) words ∙ is.named;
        numbered = ap (get_by (λ k. bytes_eq is.label.label.now k.now)) numbers ∙ is.numbered;
        many = ap length same ∙ is.many;
        found =
            ap (λ (xs : List ℕ). get_by (λ k. bytes_eq (x.word ∷ xs) k.items) t.places) same
            ∙ found_by (x.word ∷ arguments_of s x)
            ∙ kept_at (x.word ∷ arguments_of s x) n (bytes_eq (number ∷ args) (x.word ∷ arguments_of s x)) refl is.found;
      }

  own_arguments : arguments_of t d ≡ args
  own_arguments =
      ap (λ b. slice_range t.arguments.items b d.end) begin
      ∙ ap (slice_range t.arguments.items (length s.arguments.items)) end
      ∙ range_behind s.arguments.items args t.arguments.items arguments

  new_node : IsNode t (length s.nodes.items) d
  new_node = record {
    order = omega (arith, long, begin, end);
    within = omega (arith, end);
    below = subst (All (λ a. a < length s.nodes.items)) (sym own_arguments) below;
    label = numbered.label;
    named =
        ap (λ (ws : Vec CountedLabel Global). slice_get ws.items d.word) words ∙ ap (slice_get s.words.items) word ∙ numbered.named;
    numbered =
        ap (get_by (λ k. bytes_eq numbered.label.label.now k.now)) numbers
        ∙ subst (λ v. get_by (λ k. bytes_eq v k.now) s.numbers ≡ Some number) (sym numbered.labelled) numbered.found
        ∙ ap (λ k. Some k) (sym word);
    many = ap length own_arguments ∙ sym numbered.many;
    found =
        ap (λ (xs : List ℕ). get_by (λ k. bytes_eq (d.word ∷ xs) k.items) t.places) own_arguments
        ∙ ap (λ n. get_by (λ k. bytes_eq (n ∷ args) k.items) t.places) word ∙ updates.1;
  }

  each_then : (n : ℕ) (x : Node) → slice_get t.nodes.items n ≡ Some x → IsNode t n x
  each_then n x at =
      let at' : slice_get (s.nodes.items ++ d ∷ []) n ≡ Some x = ap (λ ns. slice_get ns n) (sym nodes) ∙ at in
      let within = slice_get_within (s.nodes.items ++ d ∷ []) n x at' in
      elim (cases_lt n (length s.nodes.items)) [
        | inl h ↦ old_node n x (sound.each n x (sym (get_front s.nodes.items d n h) ∙ at'))
        | inr g ↦
            let h : length s.nodes.items ≡ n = omega (arith, length_push s.nodes.items d) in
            let is : Some d ≡ Some x =
            sym (get_last s.nodes.items d) ∙ ap (slice_get (s.nodes.items ++ d ∷ [])) h ∙ at' in
            subst (λ x. IsNode t n x) (same_Some d x is) (subst (λ n. IsNode t n d) h new_node)
      ]

  there_then : (key : List ℕ) (n : ℕ) (b : Bool) → bytes_eq (number ∷ args) key ≡ b
      → cond b (Some (length s.nodes.items)) (get_by (λ k. bytes_eq key k.items) s.places) ≡ Some n → n < length t.nodes.items
  there_then key n true e at =
      let same : length s.nodes.items ≡ n = same_Some (length s.nodes.items) n at in omega (arith, more_nodes, same)
  there_then key n false e at = let h = sound.there key n at in omega (arith, more_nodes, h)

  -- one more node
  pub node_more : AreNodes t
  node_more = record {
    each = each_then;
    labelled = λ v k at.
        let there = sound.labelled v k (ap (get_by (λ k. bytes_eq v k.now)) (sym numbers) ∙ at) in
        (there.0, ap (λ (ws : Vec CountedLabel Global). slice_get ws.items k) words ∙ there.1, there.2);
    there = λ key n at. there_then key n (bytes_eq (number ∷ args) key) refl (sym (found_by key) ∙ at);
  }

-- ---- what a node is

-- the arguments of the node at a place
pub arguments_at : (s : Shared) (n : ℕ) (d : Node) → slice_get s.nodes.items n ≡ Some d → arguments_in s n ≡ arguments_of s d
arguments_at s n d at = ap (in_node s) at

-- there is one at each number that is low enough
pub node_there : (s : Shared) (n : ℕ) → n < length s.nodes.items → (d : Node) × (slice_get s.nodes.items n ≡ Some d)
node_there s n within =
    elim (slice_get_cases s.nodes.items n).1 [
      | inl there ↦ (there.0, there.2)
      | inr past ↦ absurd (omega (arith, past.0, within))
    ]

-- its arguments are below it
pub arguments_below : (s : Shared) (n : ℕ) → AreNodes s → n < length s.nodes.items → AllByRecursion (λ a. a < n) (arguments_in s n)
arguments_below s n sound within =
    let there = node_there s n within in
    subst (AllByRecursion (λ a. a < n)) (sym (arguments_at s n there.0 there.1))
    (recursion_from_All (λ a. a < n) (arguments_of s there.0) (sound.each n there.0 there.1).below)

-- it is found by its label
pub node_found : (s : Shared) (n : ℕ) (d : Node) (is : IsNode s n d) → find_in s is.label.label.now (arguments_of s d) ≡ Some n
node_found s n d is =
    ap (option_and_then (λ k. get_by (λ x. bytes_eq (k ∷ arguments_of s d) x.items) s.places)) is.numbered ∙ is.found

-- a stretch that is lent
pub lent_range : (xs : List ℕ) (b e : ℕ) (r : Option (Bor (List ℕ))) (d : Bor (List ℕ))
    → MatchOption r ((e < b) ⊎ (length xs < e)) (λ x. (b ≤ e) × (e ≤ length xs) × (x.now ≡ slice_range xs b e) × (length x.now + b ≡ e))
    → b ≤ e → e ≤ length xs → (unwrap_or r d).now ≡ slice_range xs b e
lent_range xs b e None d (inl h) order within = absurd (omega arith)
lent_range xs b e None d (inr h) order within = absurd (omega arith)
lent_range xs b e (Some x) d m order within = m.2
