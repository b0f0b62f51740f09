-- A change of labels keeps what is derived, where each frame cited has one that stands for it.
use Rattle.std.proofs.Common.{◌≡◌, ◌≢◌, ℕ, Bool, true, false, cond, List, [], ◌∷◌, ◌++◌, Some, Contains, map, refl, sym, ap, subst, ◌∙◌}
use Rattle.std.proofs.Common.{inl, inr, ⊎_elim}
use Rattle.std.specs.List.{AllByRecursion}
use Rattle.std.specs.Str.{bytes_eq}
use Rattle.std.proofs.lemmas.List.{map-append}
use Rattle.std.proofs.lemmas.List.Elements.{All-contains, Contains-get_or, Contains-push, Contains-append_left, Contains-append_right}
use Rattle.std.proofs.lemmas.List.Elements.{recursion_from_All}
use Rattle.std.proofs.lemmas.Slice.Eq.{bytes_eq-Decides}
use Rattle.mmsyntax.specs.Tables.{Tables}
use Rattle.mmsyntax.specs.declared.statement.Frame.{Frame}
use Rattle.mmsyntax.specs.declared.statement.Assertion.{Assertion}
use Rattle.mmsyntax.specs.declared.statement.Step.TheVariants.{Cite}
use Rattle.mmframes.specs.Substitution.{replacement}
use Rattle.derivation.specs.Derivation.{Expression, Citable, Tree, Trees, float, hyp, node, none, some, Derives, DeriveEach, Gives}
use Rattle.derivation.specs.Derivation.{AreApart, substitution, listing, listings}
use Rattle.derivation.specs.Laws.{relabelled, all_relabelled, Mentions, SomeMentions, step_relabelled, StandsFor, replacing}
use Rattle.derivation.specs.Laws.{RelabelledDerives, ReplacedDerives, RelabelledProves, RenamedProves, renamed}
use Rattle.mmframes.specs.Frames.{frame}
use Rattle.derivation.specs.Databases.{frame_in}

-- what a frame gives, one that stands for it gives
pub Gives-stands : (p : Tables) (a b : Assertion) (f g : Frame) (es : List Expression) (e : Expression) → b.pairs ≡ a.pairs → StandsFor g f
    → Gives p a f es e → Gives p b g es e
Gives-stands p a b f g es e same s h =
    let P : ℕ × ℕ → Type 0 = λ q. AreApart a.pairs (replacement (substitution f.floats es) q.0)
    (replacement (substitution f.floats es) q.1) in
    record {
      one_each = rw (s.floats, s.hyps) h.one_each;
      types = rw s.floats h.types;
      hypotheses = rw (s.floats, s.hyps) h.hypotheses;
      pairs = rw (same, s.floats) (λ k d lt. All-contains P f.pairs _ h.pairs (s.pairs _ (Contains-get_or g.pairs k d lt)));
      is_conclusion = rw (s.floats, s.statement) h.is_conclusion;
      short = h.short;
    }

StandsFor-itself : (f : Frame) → StandsFor f f
StandsFor-itself f = record { floats = refl; hyps = refl; statement = refl; pairs = λ q h. h }

mutual
  listing-relabelled : (change : List ℕ → List ℕ) (t : Tree) → listing (relabelled change t) ≡ map (step_relabelled change) (listing t)
  listing-relabelled change (float i) = refl
  listing-relabelled change (hyp k) = refl
  listing-relabelled change (node label ts) =
      ap (λ xs. xs ++ Cite (change label) ∷ []) (listings-relabelled change ts)
      ∙ sym (map-append (step_relabelled change) (listings ts) (Cite label ∷ []))

  listings-relabelled : (change : List ℕ → List ℕ) (ts : Trees) → listings (all_relabelled change ts) ≡ map (step_relabelled change)
      (listings ts)
  listings-relabelled change none = refl
  listings-relabelled change (some t ts) =
      (λ i. listing-relabelled change t i ++ listings-relabelled change ts i)
      ∙ sym (map-append (step_relabelled change) (listing t) (listings ts))

module _ (lib lib' : Citable) (p : Tables) (a b : Assertion) (change : List ℕ → List ℕ) (hyps : b.hyps ≡ a.hyps)
    (pairs : b.pairs ≡ a.pairs) where
  mutual
    tree-derives : (t : Tree) (e : Expression)
        → ((label : List ℕ) (f : Frame) → Mentions t label → lib label ≡ Some f → (g : Frame) × (lib' (change label) ≡ Some g)
        × StandsFor g f)
        → Derives lib p a t e → Derives lib' p b (relabelled change t) e
    tree-derives (float i) e covers h = h
    tree-derives (hyp k) e covers h = rw hyps h
    tree-derives (node label ts) e covers h =
        let g = covers label h.0 (inl refl) h.2 in
        (g.0, h.1, g.1, trees-derive ts h.1 (λ l f m. covers l f (inr m)) h.3, Gives-stands p a b h.0 g.0 h.1 e pairs g.2 h.4)

    trees-derive : (ts : Trees) (es : List Expression)
        → ((label : List ℕ) (f : Frame) → SomeMentions ts label → lib label ≡ Some f → (g : Frame) × (lib' (change label) ≡ Some g)
        × StandsFor g f)
        → DeriveEach lib p a ts es → DeriveEach lib' p b (all_relabelled change ts) es
    trees-derive none es covers h = h
    trees-derive (some t ts) es covers h =
        (h.0, h.1, h.2, tree-derives t h.0 (λ l f m. covers l f (inl m)) h.3, trees-derive ts h.1 (λ l f m. covers l f (inr m)) h.4)

pub relabelled-derives : RelabelledDerives
relabelled-derives lib lib' p a b change t e hyps pairs covers h =
    (tree-derives lib lib' p a b change hyps pairs t e covers h, listing-relabelled change t)

pub replaced-derives : ReplacedDerives
replaced-derives lib p a old new f g t e is_old is_new stands h =
    tree-derives lib lib p a a (replacing old new) refl refl t e covers h
  where
    covers : (label : List ℕ) (k : Frame) → Mentions t label → lib label ≡ Some k
        → (m : Frame) × (lib (replacing old new label) ≡ Some m) × StandsFor m k
    covers label k m e =
        elim (bytes_eq old label) as (λ b. bytes_eq old label ≡ b → (m : Frame) × (lib (cond b new label) ≡ Some m) × StandsFor m k) [
          | true ↦ λ t. let same : old ≡ label = (bytes_eq-Decides old label).0 t in
              let at : lib old ≡ Some k = rw same e in
              let frames : f ≡ k = cc in
              (g, is_new, rw (← frames) stands)
          | false ↦ λ t. (k, e, StandsFor-itself k)
        ] refl

mutual
  -- a label that a tree cites stands in its listing
  mention-listed : (t : Tree) (l : List ℕ) → Mentions t l → Contains (listing t) (Cite l)
  mention-listed (float i) l h = absurd h
  mention-listed (hyp k) l h = absurd h
  mention-listed (node label ts) l h =
      ⊎_elim (λ e. subst (λ m. Contains (listings ts ++ Cite label ∷ []) (Cite m)) e (Contains-push (listings ts) (Cite label)))
      (λ m. Contains-append_left (listings ts) (Cite label ∷ []) (Cite l) (mentions-listed ts l m)) h

  mentions-listed : (ts : Trees) (l : List ℕ) → SomeMentions ts l → Contains (listings ts) (Cite l)
  mentions-listed none l h = absurd h
  mentions-listed (some t ts) l h =
      ⊎_elim (λ m. Contains-append_left (listing t) (listings ts) (Cite l) (mention-listed t l m))
      (λ m. Contains-append_right (listing t) (listings ts) (Cite l) (mentions-listed ts l m)) h

pub relabelled-proves : RelabelledProves
relabelled-proves lib lib' p a b change steps e hyps pairs covers h = (
  relabelled change h.0,
  listing-relabelled change h.0 ∙ ap (map (step_relabelled change)) h.1,
  tree-derives lib lib' p a b change hyps pairs h.0 e
      (λ label f m. covers label f (subst (λ s. Contains s (Cite label)) h.1 (mention-listed h.0 label m))) h.2,
)

apart-at : (old new x y : List ℕ) (b c : Bool) → (b ≡ true → old ≡ x) → (c ≡ true → old ≡ y) → x ≢ y → x ≢ new → y ≢ new
    → cond b new x ≢ cond c new y
apart-at old new x y true true h k ne nx ny = λ e. ne (sym (h refl) ∙ k refl)
apart-at old new x y true false h k ne nx ny = λ e. ny (sym e)
apart-at old new x y false true h k ne nx ny = nx
apart-at old new x y false false h k ne nx ny = ne

replaced-apart : (old new x y : List ℕ) → x ≢ y → x ≢ new → y ≢ new → replacing old new x ≢ replacing old new y
replaced-apart old new x y ne nx ny =
    apart-at old new x y (bytes_eq old x) (bytes_eq old y) (bytes_eq-Decides old x).0 (bytes_eq-Decides old y).0 ne nx ny

bytes-apart : (x y : List ℕ) (b : Bool) → bytes_eq x y ≡ b → x ≢ y → b ≡ false
bytes-apart x y true e ne = absurd (ne ((bytes_eq-Decides x y).0 e))
bytes-apart x y false e ne = refl

-- a label with a frame is the label of an assertion, so it is not the new one
found-apart : (p : Tables) (new : List ℕ) (lib : List Assertion) (label : List ℕ) (f : Frame) → AllByRecursion (λ b. b.label ≢ new) lib
    → frame_in p lib label ≡ Some f → label ≢ new
found-apart p new [] label f none_new at = cc
found-apart p new (b ∷ lib) label f none_new at =
    elim (bytes_eq b.label label) as (λ t. bytes_eq b.label label ≡ t → cond t (Some (frame p b)) (frame_in p lib label) ≡ Some f
    → label ≢ new) [
      | true ↦ λ e h. λ k. none_new.0 ((bytes_eq-Decides b.label label).0 e ∙ k)
      | false ↦ λ e h. found-apart p new lib label f none_new.1 h
    ] refl at

renamed-found : (p : Tables) (old new : List ℕ) (lib : List Assertion) (label : List ℕ) (f : Frame)
    → AllByRecursion (λ b. b.label ≢ new) lib
    → frame_in p lib label ≡ Some f → frame_in p (map (renamed old new) lib) (replacing old new label) ≡ Some f
renamed-found p old new [] label f none_new at = cc
renamed-found p old new (b ∷ lib) label f none_new at =
    elim (bytes_eq b.label label) as (λ t. bytes_eq b.label label ≡ t → cond t (Some (frame p b)) (frame_in p lib label) ≡ Some f
    → cond (bytes_eq (replacing old new b.label) (replacing old new label)) (Some (frame p b))
    (frame_in p (map (renamed old new) lib) (replacing old new label)) ≡ Some f) [
      | true ↦ λ e h.
          let same : replacing old new b.label ≡ replacing old new label = ap (replacing old new) ((bytes_eq-Decides b.label label).0 e) in
          rw ((bytes_eq-Decides _ _).1 same) h
      | false ↦ λ e h.
          let ne : b.label ≢ label = λ k. let both : bytes_eq b.label label ≡ true = (bytes_eq-Decides b.label label).1 k in cc in
          let apart = replaced-apart old new b.label label ne none_new.0 (found-apart p new lib label f none_new.1 h) in
          rw (bytes-apart _ _ _ refl apart) (renamed-found p old new lib label f none_new.1 h)
    ] refl at

pub renamed-proves : RenamedProves
renamed-proves p lib old new a none_new h =
    relabelled-proves (frame_in p lib) (frame_in p (map (renamed old new) lib)) p a (renamed old new a) (replacing old new) a.proof
    a.statement refl refl
    (λ label f c at. (
      f,
      renamed-found p old new lib label f (recursion_from_All (λ b. b.label ≢ new) lib none_new) at,
      StandsFor-itself
          f,
    )) h
