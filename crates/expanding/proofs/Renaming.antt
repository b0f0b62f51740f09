-- What renames make of labels: one rename more.
use Rattle.std.proofs.Common.{◌≡◌, ◌∙◌, ℕ, Bool, true, false, cond, List, [], ◌∷◌, ◌++◌, map, Option, Some, None, refl, sym, ap, subst, Bor}
use Rattle.std.specs.Prelude.{filter, Vec, Contains}
use Rattle.std.specs.Option.{unwrap_or}
use Rattle.std.specs.Str.{bytes_eq}
use Rattle.std.specs.HashMap as hash
use Rattle.std.specs.HashMap.{HashMap}
use Rattle.std.specs.declared.alloc.Global.{Global}
use Rattle.std.specs.declared.random_state.RandomState.{RandomState}
use Rattle.std.proofs.lemmas.List.{append-nil, map-append}
use Rattle.std.proofs.lemmas.List.Elements.{filter-append, All-contains, All-contains_itself, All-cons, All-nil, All-head, All-tail}
use Rattle.std.specs.List.{All}
use Rattle.std.proofs.lemmas.Map.Text.{hash_map_updates_str}
use Rattle.mmtext.specs.Words.{Word}
use Rattle.mmsyntax.proofs.Names.{bytes_eq-sym, same_bytes}
use Rattle.source.specs.Views.{seen_words}
use Rattle.expanding.specs.Called.{new_labels}
use Rattle.expanding.specs.Bearing.{listed, list_for, FindsNew}

one_new : (b : Bool) (r : Word × Word) → map (λ (q : Word × Word). q.1) (cond b (r ∷ []) []) ≡ cond b (r.1 ∷ []) []
one_new true r = refl
one_new false r = refl

new_labels_more : (rs : List (Word × Word)) (x v w : Word)
    → new_labels (rs ++ (x, v) ∷ []) w ≡ new_labels rs w ++ cond (bytes_eq w x) (v ∷ []) []
new_labels_more rs x v w =
    ap (map (λ (r : Word × Word). r.1)) (filter-append (λ (r : Word × Word). bytes_eq w r.0) rs ((x, v) ∷ []))
    ∙ (map-append (λ (r : Word × Word). r.1) (filter (λ (r : Word × Word). bytes_eq w r.0) rs) (cond (bytes_eq w x) ((x, v) ∷ []) [])
    ∙ ap (λ l. new_labels rs w ++ l) (one_new (bytes_eq w x) (x, v)))

put_one : (b : Bool) (labels : Vec (Bor (List ℕ)) Global) (o : Option (Vec (Bor (List ℕ)) Global)) (v : Word)
    → (b ≡ true → seen_words labels.items ≡ listed o ++ v ∷ [])
    → listed (cond b (Some labels) (cond b None o)) ≡ listed o ++ cond b (v ∷ []) []
put_one true labels o v is = is refl
put_one false labels o v is = sym (append-nil (listed o))

module _ (m k n : HashMap (Bor (List ℕ)) (Vec (Bor (List ℕ)) Global) RandomState) (x v : Word) where
  pub finds_more : (rs : List (Word × Word)) (labels : Vec (Bor (List ℕ)) Global) → FindsNew m rs
      → hash.UpdatesBy (λ a b. bytes_eq a.now b.now) (λ a. bytes_eq x a.now) m k None
      → hash.UpdatesBy (λ a b. bytes_eq a.now b.now) (λ a. bytes_eq x a.now) k n (Some labels)
      → seen_words labels.items ≡ list_for m x ++ v ∷ [] → FindsNew n (rs ++ (x, v) ∷ [])
  finds_more rs labels found removed put is w =
      ap listed (hash_map_updates_str x k n (Some labels) put w
      ∙ ap (λ o. cond (bytes_eq x w) (Some labels) o) (hash_map_updates_str x m k None removed w))
      ∙ (put_one (bytes_eq x w) labels (hash.get_by (λ a. bytes_eq w a.now) m) v
      (λ same. subst (λ y. seen_words labels.items ≡ list_for m y ++ v ∷ []) (same_bytes x w same) is)
      ∙ (ap (λ b. list_for m w ++ cond b (v ∷ []) []) (bytes_eq-sym x w)
      ∙ (ap (λ l. l ++ cond (bytes_eq w x) (v ∷ []) []) (found w) ∙ sym (new_labels_more rs x v w))))

pub list_taken : (o : Option (Vec (Bor (List ℕ)) Global)) (d r : Vec (Bor (List ℕ)) Global) → r ≡ unwrap_or o d → d.items ≡ []
    → seen_words r.items ≡ listed o
list_taken None d r is empty = ap (λ (l : Vec (Bor (List ℕ)) Global). seen_words l.items) is ∙ ap seen_words empty
list_taken (Some l) d r is empty = ap (λ (l : Vec (Bor (List ℕ)) Global). seen_words l.items) is

-- what they make of a label is among their new labels
more_new : (all : List Word) (b : Bool) (r : Word × Word) (rest : List (Word × Word)) → Contains all r.1
    → All (Contains all) (map (λ (q : Word × Word). q.1) rest)
    → All (Contains all) (map (λ (q : Word × Word). q.1) (cond b (r ∷ rest) rest))
more_new all true r rest h k = All-cons (Contains all) r.1 (map (λ (q : Word × Word). q.1) rest) h k
more_new all false r rest h k = k

among_new : (all : List Word) (w : Word) (rs : List (Word × Word)) → All (λ (r : Word × Word). Contains all r.1) rs
    → All (Contains all) (new_labels rs w)
among_new all w [] h = All-nil (Contains all)
among_new all w (r ∷ rs) h =
    more_new all (bytes_eq w r.0) r (filter (λ (q : Word × Word). bytes_eq w q.0) rs)
    (All-head (λ (r : Word × Word). Contains all r.1) r rs h)
    (among_new all w rs (All-tail (λ (r : Word × Word). Contains all r.1) r rs h))

of_map : (P : Word → Type 0) (rs : List (Word × Word)) → All P (map (λ (r : Word × Word). r.1) rs) → All (λ (r : Word × Word). P r.1) rs
of_map P [] h = All-nil (λ (r : Word × Word). P r.1)
of_map P (r ∷ rs) h =
    let rest = map (λ (r : Word × Word). r.1) rs in
    All-cons (λ (r : Word × Word). P r.1) r rs (All-head P r.1 rest h) (of_map P rs (All-tail P r.1 rest h))

pub new_among : (rs : List (Word × Word)) (u v : Word) → Contains (new_labels rs u) v → Contains (map (λ (r : Word × Word). r.1) rs) v
new_among rs u v h =
    let all = map (λ (r : Word × Word). r.1) rs in
    All-contains (Contains all) (new_labels rs u) v
    (among_new all u rs (of_map (Contains all) rs (All-contains_itself all))) h
