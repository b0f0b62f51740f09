-- What a stage finds after a change of its map.
use Rattle.std.proofs.Common.{◌≡◌, ℕ, cond, List, [], ◌∷◌, length, map, Option, None, Some, Vec, inl, inr, refl, sym, ap, subst, ◌∙◌}
use Rattle.std.specs.Option.{option_map}
use Rattle.std.specs.Str.{bytes_eq}
use Rattle.std.specs.Ordering.{nat_cmp, is_eq}
use Rattle.std.specs.Cmp.Lexicographic.{slice_cmp, nat_list_cmp_total}
use Rattle.std.specs.Map.{lookup}
use Rattle.std.specs.HashMap as hash
use Rattle.std.specs.HashMap.{HashMap}
use Rattle.std.specs.FinMap.{empty, find, get, insert, get-from_entries, get-empty, get-insert, same_map}
use Rattle.std.specs.declared.alloc.Global.{Global}
use Rattle.std.specs.declared.random_state.RandomState.{RandomState}
use Rattle.std.proofs.lemmas.Bool.{cases_Bool, cond-true, cond-false}
use Rattle.std.proofs.lemmas.Map.Lookups.{exact_bytes}
use Rattle.std.proofs.lemmas.Map.Text.{is_eq-slice_cmp}
use Rattle.ranges.specs.declared.range.Range.{Range as Span}
use Rattle.ranges.specs.Ranges.{Has}
use Rattle.mmsyntax.proofs.Names.{after_update, bytes_eq-sym, same_bytes}
use Rattle.bodystore.specs.Stages.{staged_in, range_at}
use Rattle.bodystore.specs.Laws.{StagedGoOn, NothingIsStaged, NotingKeepsStaged, FoundIsStaged}

abbrev Starts : Type 0
Starts = HashMap (Vec ℕ Global) ℕ RandomState

find_entries : (q : List ℕ) (es : List (Vec ℕ Global × ℕ))
    → find (slice_cmp nat_cmp) q (map (λ e. (e.0.items, e.1)) es) ≡ lookup (λ k. bytes_eq q k.items) es
find_entries q [] = refl
find_entries q (e ∷ es) = λ i. cond (is_eq-slice_cmp q e.0.items i) (Some e.1) (find_entries q es i)

-- the stage has for each words what a look-up finds
pub looked_up : (m : Starts) (q : List ℕ) → get (staged_in m) q ≡ hash.get_by (λ k. bytes_eq q k.items) m
looked_up m q = get-from_entries nat_list_cmp_total (map (λ e. (e.0.items, e.1)) m.entries) q ∙ find_entries q m.entries

-- the map has a start for one more body
pub noted : (m n : Starts) (key : Vec ℕ Global) (start : ℕ) → hash.Updates (λ x y. bytes_eq x.items y.items) m n key (Some start)
    → staged_in n ≡ insert (staged_in m) key.items start
noted m n key start h =
    let stage = staged_in m in
    same_map nat_list_cmp_total exact_bytes (staged_in n) (insert stage key.items start)
    (λ q. looked_up n q ∙ after_update key.items m n (Some start) h q
    ∙ ap (cond (bytes_eq key.items q) (Some start)) (sym (looked_up m q))
    ∙ ap (λ b. cond b (Some start) (get stage q)) (bytes_eq-sym key.items q ∙ sym (is_eq-slice_cmp q key.items))
    ∙ sym (get-insert nat_list_cmp_total stage key.items start q))

-- ---- the ranges of a stage

pub staged_go_on : StagedGoOn
staged_go_on ranges more stage within are = record { among = λ words start is. within _ (are.among words start is) }

not_empty : (words : List ℕ) (start : ℕ) → get {X = ℕ} {R = slice_cmp nat_cmp} empty words ≡ Some start → ⊥
not_empty words start is = let none = sym (get-empty (slice_cmp nat_cmp) words) ∙ is in cc none

pub nothing_staged : NothingIsStaged
nothing_staged ranges = record { among = λ words start is. absurd (not_empty words start is) }

pub noting_keeps : NotingKeepsStaged
noting_keeps ranges stage words start has are = record {
  among = λ others place is.
      let at = get-insert nat_list_cmp_total stage words start others in
      elim (cases_Bool (is_eq (slice_cmp nat_cmp others words))) [
        | inl y ↦
            let same : others ≡ words = same_bytes others words (sym (is_eq-slice_cmp others words) ∙ y) in
            let here : Some start ≡ Some place = sym (cond-true _ (Some start) (get stage others) y) ∙ sym at ∙ is in
            let starts : start ≡ place = cc in
            subst (λ z. Has z ranges) (λ i. record { start = starts i; words = sym same i }) has
        | inr n ↦ are.among others place (sym (cond-false _ (Some start) (get stage others) n) ∙ sym at ∙ is)
      ];
}

start_of : (words : List ℕ) (o : Option ℕ) (r : Span) → option_map (range_at words) o ≡ Some r
    → (o ≡ Some r.start) × (r.len ≡ length words)
start_of words None r is = absurd (cc is)
start_of words (Some start) r is =
    let own : record { start = start; len = length words } ≡ r = cc in
    (ap (λ (p : Span). Some p.start) own, ap (λ (p : Span). p.len) (sym own))

pub found_is_staged : FoundIsStaged
found_is_staged ranges stage words r are is =
    let own = start_of words (get stage words) r is in
    (are.among words r.start own.0, own.1)
