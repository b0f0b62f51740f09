-- Labels of which none is L.k of another, and what keeps them so.
use Rattle.std.proofs.Common.{◌≡◌, Bool, true, false, List, [], ◌∷◌, ◌++◌, refl, sym, ◌∙◌}
use Rattle.std.proofs.Common.{subst, inl, inr, arith}
use Rattle.std.specs.Prelude.{◌⊎◌, ◌||◌}
use Rattle.std.specs.List.{All, Contains, list_any}
use Rattle.std.proofs.lemmas.Bool.{or_parts, or_from}
use Rattle.std.proofs.lemmas.List.Elements.{All-cons, All-contains, Contains-get_or, Contains-append_left, Contains-append_right}
use Rattle.std.proofs.lemmas.List.Elements.{Contains-append_cases}
use Rattle.mmtext.specs.Words.{Word}
use Rattle.mmsyntax.specs.Dotted.{is_dotted, clash, ClashNowhere}
use Rattle.mmsyntax.proofs.DottedWords.{not_dotted_itself}
use Rattle.mmsyntax.proofs.Distinct.{any_at}

-- ---- two labels

-- ---- lists

pub apart_nil : ClashNowhere []
apart_nil l w l_in w_in = absurd (omega (arith, l_in.1))

-- labels that are among some that are apart
pub apart_within : (ls ms : List Word) → ((w : Word) → Contains ms w → Contains ls w) → ClashNowhere ls → ClashNowhere ms
apart_within ls ms within h l w l_in w_in = h l w (within l l_in) (within w w_in)

-- and with one more label that clashes with none of them
pub apart_with : (ls ms : List Word) (new : Word) → ((w : Word) → Contains ms w → (w ≡ new) ⊎ (Contains ls w × (clash w new ≡ false)))
    → ClashNowhere ls → ClashNowhere ms
apart_with ls ms new among h l w l_in w_in =
    elim (among l l_in) [
      | inl is ↦ elim (among w w_in) [
        | inl same ↦ subst (λ x. is_dotted l x ≡ false) (is ∙ sym same) (not_dotted_itself l)
        | inr other ↦ subst (λ x. is_dotted x w ≡ false) (sym is) (or_parts (is_dotted w new) (is_dotted new w) other.1).1
      ]
      | inr own ↦ elim (among w w_in) [
        | inl same ↦ subst (λ x. is_dotted l x ≡ false) (sym same) (or_parts (is_dotted l new) (is_dotted new l) own.1).0
        | inr other ↦ h l w own.0 other.0
      ]
    ]

pub apart_cons : (new : Word) (ls : List Word) → list_any (λ l. clash l new) ls ≡ false → ClashNowhere ls → ClashNowhere (new ∷ ls)
apart_cons new ls clear =
    let Among = λ (w : Word). (w ≡ new) ⊎ (Contains ls w × (clash w new ≡ false)) in
    let among : All Among ls = λ i d lt. inr (Contains-get_or ls i d lt, any_at (λ l. clash l new) ls i d clear lt) in
    apart_with ls (new ∷ ls) new (λ w w_in. All-contains Among (new ∷ ls) w (All-cons Among new ls (inl refl) among) w_in)

pub apart_behind : (ls : List Word) (new : Word) → list_any (λ l. clash l new) ls ≡ false → ClashNowhere ls → ClashNowhere (ls ++ new ∷ [])
apart_behind ls new clear h =
    apart_within (new ∷ ls) (ls ++ new ∷ []) (λ w w_in.
    elim (Contains-append_cases ls (new ∷ []) w w_in) [
      | inl before ↦ Contains-append_right (new ∷ []) ls w before
      | inr last ↦ Contains-append_left (new ∷ []) ls w last
    ]) (apart_cons new ls clear h)

-- a label in the middle of labels that are apart clashes with none before it
pub apart_front : (ls ms : List Word) (w : Word) → ClashNowhere (ls ++ w ∷ ms) → list_any (λ l. clash l w) ls ≡ false
apart_front ls ms w h = front ls (λ l l_in. Contains-append_left ls (w ∷ ms) l l_in)
  where
    here : Contains (ls ++ w ∷ ms) w
    here = Contains-append_right ls (w ∷ ms) w (0, omega arith, refl)

    front : (xs : List Word) → ((l : Word) → Contains xs l → Contains (ls ++ w ∷ ms) l) → list_any (λ l. clash l w) xs ≡ false
    front [] within = refl
    front (x ∷ xs) within =
        let x_in = within x (0, omega arith, refl) in
        or_from (clash x w) (list_any (λ l. clash l w) xs)
        (or_from (is_dotted x w) (is_dotted w x) (h x w x_in here) (h w x here x_in))
        (front xs (λ l l_in. within l (Contains-append_right (x ∷ []) xs l l_in)))
