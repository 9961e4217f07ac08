-- The ends of calls, whatever was read of them before.
-- Assumes nothing.
use mathlib.Core.Path.{◌≡◌, refl, ap, sym, ◌∙◌}
use mathlib.Core.Bool.{Bool, true, false, ◌&&◌, ◌||◌, true≢false, and-true, and-false}
use mathlib.Core.List.{List, [], ◌∷◌}
use mathlib.Core.Option.{Option, none, some}
use mathlib.Core.Logic.{⊎_elim, inl, inr, ◌⊎◌}
use Prim.Native.Nat.{ℕ, ◌+◌, ◌≤◌, ◌<◌}
use native.Mathlib.Omega.{arith}
use lib.Dec.{eqb, ltb}
use lib.ListN.{length}
use borrow.Author.Tests.{ne_eqb, eqb-true, le-leb, lt-leb, ltb-true, ltb-false}
use Rattle.macros.specs.Macro.{Move, Call, pick, within, ascii_lower, digit, among}
use Rattle.macros.specs.Macro.Mark.{stack, counter}
use Rattle.macros.specs.Macro.Move.{still, after}
use Rattle.macros.specs.Macro.Call.{store_tag}
use Rattle.macros.specs.Formed.{number_fits}
use Rattle.macros.specs.Read.{Prior, Site, CallSite, Phase, call_byte, site_of, may_insert, may_store_tag, is_sign, sign_of, is_still, breaks, number_end as closing}
use Rattle.macros.specs.ReadSoFar.Part.{calling}
use Rattle.macros.specs.ReadSoFar.Phase.{begun, signed, named, tagged, comma, tag_signed, tag_named}
use Rattle.macros.specs.ReadCalls.Turn.{into, closed, wrong}
use Rattle.read_scan.specs.Scan.MacroRead.{refused_at}
use Rattle.form_bytes.specs.Fours.{four}
use Rattle.form_table.specs.Form.{call_items, move_code}
use Rattle.read_scan.specs.Scan.{run, Here, Calls, fault_of, wrong_call}
use Rattle.read_number.specs.Number.{Counts, Kept, most, Outside, Inside, Unclosed}
use Rattle.form_items.specs.Items.{Wrote}
use Rattle.read_call.specs.Call.{Names, Naming, Sets, SetFrom, TagFrom, TagNaming, TagLetter, Named, name_read, no_name}
use Rattle.read_text.specs.Text.{Comes, Ends}
use Rattle.std.specs.Prelude.{Result, Ok, Err, Option as Maybe, Some, None}
use Rattle.std.specs.Option.{unwrap_or}
use Rattle.read_scan.specs.Bytes.{Next, refused}
use Rattle.read_scan.specs.declared.ReadError.{ReadError}
use Rattle.read_ends.specs.Ends.{Ended}
use Rattle.read_scan.specs.declared.FileFault.{FileFault}
use Rattle.read_scan.specs.declared.FileFault.TheVariants.{BadCall}
use Rattle.read_number.specs.declared.Number.{Number}
use Rattle.read_number.proofs.Numbers.{most_low, most_high}
use Rattle.form_items.proofs.Writing.{wrote_more}
use Rattle.read_text.proofs.Turns.{call_next, call_none, here_wrong, here_into}
use Rattle.read_text.proofs.Closing.{ends_wrong, ends_unfit, ends_closed}

-- NUMBERS

pub most_same : (w v : ℕ) → v ≡ most w → v ≤ 999999999 → w ≡ v
most_same w v e h = by (ltb w 1000000000) refl
  where
    by : (x : Bool) → ltb w 1000000000 ≡ x → w ≡ v
    by true f = sym (e ∙ most_low w (ltb-true w 1000000000 f))
    by false f = absurd (omega (arith, most_high w (ltb-false w 1000000000 f), e))

pub most_over : (w v t : ℕ) → v ≡ most w → t < v → t < w
most_over w v t e h = by (ltb w 1000000000) refl
  where
    by : (x : Bool) → ltb w 1000000000 ≡ x → t < w
    by true f = omega (arith, most_low w (ltb-true w 1000000000 f), e)
    by false f = omega (arith, most_high w (ltb-false w 1000000000 f), ltb-false w 1000000000 f, e)

pub most_zero : (w v : ℕ) → v ≡ most w → v < 1 → w < 1
most_zero w v e h = by (ltb w 1000000000) refl
  where
    by : (x : Bool) → ltb w 1000000000 ≡ x → w < 1
    by true f = omega (arith, most_low w (ltb-true w 1000000000 f), e)
    by false f = absurd (omega (arith, most_high w (ltb-false w 1000000000 f), e))

pub within_yes : (t w : ℕ) → 1 ≤ w → w ≤ t → within 1 t w ≡ true
unfolding within
within_yes t w h j = simp (le-leb _ _ h, le-leb _ _ j)

pub within_zero : (t w : ℕ) → w < 1 → within 1 t w ≡ false
unfolding within
within_zero t w h = simp (lt-leb _ _ h)

pub within_over : (t w : ℕ) → t < w → within 1 t w ≡ false
unfolding within
within_over t w h = simp (lt-leb _ _ h, and-false)

pub unfit : (t v w : ℕ) → v ≡ most w → ((v < 1) ⊎ (t < v)) → within 1 t w ≡ false
unfit t v w e x = ⊎_elim (λ h. within_zero t w (most_zero w v e h)) (λ h. within_over t w (most_over w v t e h)) x

pub wrong_close : fault_of BadCall ≡ wrong_call 41
unfolding wrong_call breaks among pick
wrong_close = refl

-- A NUMBER BEHIND `=` OR `,`

set_size : (n code i w : ℕ) → n + 6 ≡ n + length (code ∷ i ∷ four w)
unfolding four
set_size n code i w = refl

-- a number with the byte behind it and its place; a refusal with its place
abbrev pub number_read : Maybe ℕ → ℕ → ℕ → Result Number ReadError
number_read x b q = Ok (record { value = x; behind = b; place = q })

abbrev pub no_number : FileFault → ℕ → Result Number ReadError
no_number f q = Err (record { fault = f; place = q })

pub some_same : {v w : ℕ} → ◌≡◌ {A = Maybe ℕ} (Some v) (Some w) → v ≡ w
some_same e = ap (λ (o : Maybe ℕ). unwrap_or o 0) e

pub some_none : {v : ℕ} → ◌≡◌ {A = Maybe ℕ} (Some v) None → ⊥
some_none e = let z : ◌≡◌ {A = ℕ} 0 1 = cc in omega arith

module _ (s : List ℕ) (a p : ℕ) (old out : List ℕ) (n code i top : ℕ) {r : Result Number ReadError} (y : Counts s a p true r) where
  pub set_none : {f : FileFault} {q : ℕ} → r ≡ no_number f q → SetFrom s a p old out n code i top (refused f q)
  set_none {f} {q} e =
      let z : Counts s a p true (no_number f q) = rw e at y in
      (λ ph c g si k. (z.0, λ pl u v pr. z.1 (λ o. calling pl (ph o)) (g.eats pl) pr))

  module _ {x : Maybe ℕ} {b q : ℕ} (e : r ≡ number_read x b q) where
    pub set_byte : Counts s a p true (number_read x b q)
    set_byte = rw e at y

    comes : (ph : Option ℕ → Phase) (c : ℕ → Call) → Sets code i top ph c → (si : Site) (k : ℕ)
        → Comes s a si k (λ pl. calling pl (ph none)) p (λ pl. calling pl (ph set_byte.4.value)) q
    comes ph c g si k pl u t pr = set_byte.4.answer (λ o. calling pl (ph o)) (g.eats pl) pr

    set_wrong : (f : FileFault) → (b ≡ 41 → ⊥) → fault_of f ≡ wrong_call b → SetFrom s a p old out n code i top (refused f q)
    set_wrong f h j ph c g si k =
        ends_wrong s a p old out n 4 si k (λ pl. calling pl (ph none)) (ph set_byte.4.value) (comes ph c g si k) set_byte.1 f (set_byte.2.1 refl)
        (g.others si set_byte.4.value b set_byte.2.0 h) j

    module _ (h : b ≡ 41) where
      at_close : Here s a q 41
      at_close = rw h at set_byte.1

      set_empty : x ≡ None → SetFrom s a p old out n code i top (refused BadCall q)
      unfolding closing
      set_empty j ph c g si k = by set_byte.4.value set_byte.4.kept (comes ph c g si k)
        where
          by : (o : Option ℕ) → Kept o x → Comes s a si k (λ pl. calling pl (ph none)) p (λ pl. calling pl (ph o)) q
              → Ends s a p old out n 4 si k (λ pl. calling pl (ph none)) (refused BadCall q)
          by none t l =
              ends_wrong s a p old out n 4 si k (λ pl. calling pl (ph none)) (ph none) l at_close BadCall (omega arith) (g.closes si none) wrong_close
          by (some w) t l = absurd (some_none (sym t ∙ j))

      module _ {v : ℕ} (j : x ≡ Some v) where
        number : (o : Option ℕ) → Kept o x → (ph : Option ℕ → Phase) (c : ℕ → Call) → Sets code i top ph c → (si : Site) (k : ℕ)
            → Comes s a si k (λ pl. calling pl (ph none)) p (λ pl. calling pl (ph o)) q → (e' : Ended)
            → ((w : ℕ) → v ≡ most w → Comes s a si k (λ pl. calling pl (ph none)) p (λ pl. calling pl (ph (some w))) q → call_byte si (ph (some w)) 41 ≡ closed (c w)
            → Ends s a p old out n 4 si k (λ pl. calling pl (ph none)) e')
            → Ends s a p old out n 4 si k (λ pl. calling pl (ph none)) e'
        unfolding closing
        number none t ph c g si k l e' f = absurd (some_none (sym j ∙ t))
        number (some w) t ph c g si k l e' f = f w (some_same (sym j ∙ t)) l (g.closes si (some w))

        set_unfit : ((w : ℕ) → v ≡ most w → within 1 top w ≡ false) → SetFrom s a p old out n code i top (refused BadCall q)
        set_unfit z ph c g si k =
            number set_byte.4.value set_byte.4.kept ph c g si k (comes ph c g si k) (refused BadCall q) (λ w t l f.
            ends_unfit s a p old out n 4 si k (λ pl. calling pl (ph none)) (ph (some w)) l at_close (c w) f (g.fits k w ∙ z w t))

        set_done : {mid : List ℕ} → 1 ≤ v → v ≤ top → top ≤ 999999999 → Wrote old mid n (code ∷ i ∷ []) → Wrote mid out (n + 2) (four v)
            → SetFrom s a p old out n code i top (Ok (q + 1, n + 6))
        set_done {mid} lo hi lim w₁ w₂ ph c g si k =
            number set_byte.4.value set_byte.4.kept ph c g si k (comes ph c g si k) (Ok (q + 1, n + 6)) (λ w t l f.
            let same : w ≡ v = most_same w v t (omega arith) in
            ends_closed s a p old out n 4 si k (λ pl. calling pl (ph none)) (ph (some w)) l at_close (c w) f
            (g.fits k w ∙ within_yes top w (omega arith) (omega arith))
            (rw (g.items w, same) (wrote_more {l = code ∷ i ∷ []} w₁ w₂))
            (rw (g.items w) (set_size n code i w))
            (omega (arith, set_byte.0)) set_byte.0)

    -- the `)` of a number out of range is a wrong byte too
    late : (f : FileFault) → b ≡ 41 → fault_of f ≡ wrong_call b → SetFrom s a p old out n code i top (refused BadCall q) → SetFrom s a p old out n code i top (refused f q)
    late f h j x ph c g si k = let z = x ph c g si k in (z.0, λ pl u t pr. z.1 pl u t pr ∙ ap (λ d. refused_at d q) (wrong_close ∙ (ap wrong_call (sym h) ∙ sym j)))

    pub set_refused : {w : Bool} → Unclosed b 41 x top w → w ≡ true → (f : FileFault) → fault_of f ≡ wrong_call b → SetFrom s a p old out n code i top (refused f q)
    set_refused {w} u e' f j =
        let z : Unclosed b 41 x top true = rw e' at u in
        ⊎_elim (λ h. set_wrong f h j) (λ h. late f h.0 j (by h.0 x refl h.1)) z
      where
        by : b ≡ 41 → (o : Maybe ℕ) → x ≡ o → Outside o top → SetFrom s a p old out n code i top (refused BadCall q)
        by h None l g = set_empty h l
        by h (Some v) l g = set_unfit h l (λ o k. unfit top v o k g)

    pub set_stored : {w : Bool} {v : ℕ} {mid : List ℕ} → Unclosed b 41 x top w → w ≡ false → x ≡ Some v → top ≤ 999999999 → Wrote old mid n (code ∷ i ∷ []) → Wrote mid out (n + 2) (four v)
        → SetFrom s a p old out n code i top (Ok (q + 1, n + 6))
    set_stored {w} {v} u e' j lim w₁ w₂ =
        let z : (b ≡ 41) × Inside x top = rw e' at u in
        let g : Inside (Some v) top = rw j at z.1 in
        set_done z.0 j g.0 g.1 lim w₁ w₂

-- A TAG'S NUMBER, ITS COMMA AND LETTER

pub joined : (x y : Bool) → (y ≡ true → (x && true) ≡ false) → (x && y) ≡ false
joined x true h = h refl
joined x false h = and-false x

-- a sign is 43 or 45
pub signs : (c : ℕ) (x : Bool) → (is_sign c && x) ≡ true → ((c ≡ 43) ⊎ (c ≡ 45)) × (x ≡ true)
unfolding is_sign
signs c x e = by (eqb c 43) (eqb c 45) x refl refl e
  where
    by : (u v w : Bool) → eqb c 43 ≡ u → eqb c 45 ≡ v → ((u || v) && w) ≡ true → ((c ≡ 43) ⊎ (c ≡ 45)) × (w ≡ true)
    by true v true f g h = (inl (eqb-true c 43 f), refl)
    by true v false f g h = absurd (true≢false (sym h))
    by false true true f g h = (inr (eqb-true c 45 g), refl)
    by false true false f g h = absurd (true≢false (sym h))
    by false false w f g h = absurd (true≢false (sym h))

tag_moved : (si : Site) (w i d : ℕ) → (is_sign d && true) ≡ true → call_byte si (tag_named w i still) d ≡ into (tag_named w i (after (sign_of d)))
unfolding call_byte pick is_still is_sign
tag_moved si w i d e = ⊎_elim (λ f. rw f refl) (λ f. rw f refl) (signs d true e).0

stack_first : (si : Site) (b : ℕ) → (digit b && may_store_tag si) ≡ false
    → call_byte si (begun stack) b ≡ pick (is_sign b && true) (into (signed stack (sign_of b))) (pick (ascii_lower b) (into (named stack b still)) wrong)
unfolding call_byte pick
stack_first si b h = simp (h, and-true)

stack_moved : (si : Site) (i d : ℕ) → (is_sign d && true) ≡ true → call_byte si (named stack i still) d ≡ into (named stack i (after (sign_of d)))
unfolding call_byte pick is_still is_sign
stack_moved si i d e = ⊎_elim (λ f. rw f refl) (λ f. rw f refl) (signs d true e).0

counter_moved : (si : Site) (i d : ℕ) → (is_sign d && may_insert si) ≡ true → call_byte si (named counter i still) d ≡ into (named counter i (after (sign_of d)))
unfolding call_byte pick is_still is_sign
counter_moved si i d e = let g = signs d (may_insert si) e in ⊎_elim (λ f. rw f (rw g.1 refl)) (λ f. rw f (rw g.1 refl)) g.0

pub names_comma : (si : Site) (c w : ℕ) → Names si true c (comma w) (tag_signed w) (tag_named w)
unfolding call_byte
names_comma si c w = record { first = rw (and-true (is_sign c)) refl; second = λ x d. refl; third = λ i d e. tag_moved si w i d e }

pub names_stack : (si : Site) (b : ℕ) → (digit b && may_store_tag si) ≡ false → Names si true b (begun stack) (signed stack) (named stack)
unfolding call_byte
names_stack si b h = record { first = stack_first si b h; second = λ x d. refl; third = λ i d e. stack_moved si i d e }

pub names_counter : (si : Site) (b : ℕ) → Names si (may_insert si) b (begun counter) (signed counter) (named counter)
unfolding call_byte
names_counter si b = record { first = refl; second = λ x d. refl; third = λ i d e. counter_moved si i d e }

tag_comma : (si : Site) (w b : ℕ) → b ≡ 44 → call_byte si (tagged w) b ≡ into (comma w)
unfolding call_byte pick digit within
tag_comma si w b e = simp e

tag_stray : (si : Site) (w b : ℕ) → digit b ≡ false → (b ≡ 44 → ⊥) → call_byte si (tagged w) b ≡ wrong
unfolding call_byte pick
tag_stray si w b h e = simp (h, ne_eqb _ _ e)

tag_close : (si : Site) (w i b : ℕ) (v : Move) → b ≡ 41 → call_byte si (tag_named w i v) b ≡ closed (store_tag w i v)
unfolding call_byte pick
tag_close si w i b v e = simp e

tag_unclosed : (si : Site) (w i b : ℕ) (v : Move) → (b ≡ 41 → ⊥) → (is_sign b && is_still v) ≡ false → call_byte si (tag_named w i v) b ≡ wrong
unfolding call_byte pick
tag_unclosed si w i b v e f = simp (ne_eqb _ _ e, f)

tag_fits : (k w i : ℕ) (v : Move) → number_fits k (store_tag w i v) ≡ within 1 k w
unfolding number_fits
tag_fits k w i v = refl

tag_items : (w i : ℕ) (v : Move) → call_items (store_tag w i v) ≡ (64 + move_code v) ∷ i ∷ 42 ∷ w ∷ []
unfolding call_items
tag_items w i v = refl

module _ {s : List ℕ} {a p b : ℕ} (x : Here s a p b) where
  pub tag_wrong : (f : FileFault) → (b ≡ 32 → ⊥) → digit b ≡ false → (b ≡ 44 → ⊥) → fault_of f ≡ wrong_call b → TagNaming s a p (no_name f p)
  tag_wrong f g h e i =
      let t = x.stands in
      (omega (arith, t.there), λ w pl pr. here_wrong pl (tagged w) pr x f g (tag_stray (site_of pl) w b h e) i)

  module _ (e : b ≡ 44) {r : Next} (y : Calls s a (p + 1) r) where
    at_comma : (w : ℕ) (pl : CallSite) (pr : Prior) → run s a pr false p (calling pl (tagged w)) ≡ run s a pr false (p + 1) (calling pl (comma w))
    at_comma w pl pr = here_into pl (tagged w) pr x (comma w) (tag_comma (site_of pl) w b e)

    pub tag_none : {f : FileFault} {q : ℕ} → r ≡ refused f q → TagNaming s a p (no_name f q)
    tag_none {f} {q} i =
        let z : Calls s a (p + 1) (refused f q) = rw i at y in
        (z.found, λ w pl pr. at_comma w pl pr ∙ call_none pl (comma w) pr z)

    module _ {c q : ℕ} (i : r ≡ Ok (c, q)) where
      pub tag_byte_lem : Calls s a (p + 1) (Ok (c, q))
      tag_byte_lem = rw i at y

      behind : (w : ℕ) (pl : CallSite) (pr : Prior) → run s a pr false p (calling pl (tagged w)) ≡ run s a pr false q (calling pl (comma w))
      behind w pl pr = at_comma w pl pr ∙ call_next pl (comma w) pr tag_byte_lem

      pub tag_named_lem : (w : Named) → Naming s a q c true w → TagNaming s a p w
      tag_named_lem (Ok x) z =
          let f = tag_byte_lem.found in
          record {
            move = z.move;
            code = z.code;
            here = z.here;
            solid = z.solid;
            further = omega (arith, f.0, z.further);
            last = z.last;
            answer = λ w pl pr. behind w pl pr ∙ z.answer pl (comma w) (tag_signed w) (tag_named w) (names_comma (site_of pl) c w) pr;
          }
      tag_named_lem (Err d) z = (z.0, λ w pl pr. behind w pl pr ∙ z.1 pl (comma w) (tag_signed w) (tag_named w) (names_comma (site_of pl) c w) pr)

module _ (s : List ℕ) (a p : ℕ) (old out : List ℕ) (n v k : ℕ) {r : Named} (z : TagNaming s a p r) where
  module _ {i m d u : ℕ} (j : r ≡ name_read i m d u) where
    pub tag_letter : TagLetter s a p i m d u
    tag_letter = rw j at z

    named_tag : (w : ℕ) (si : Site) → Comes s a si k (λ pl. calling pl (tagged w)) p (λ pl. calling pl (tag_named w i tag_letter.move)) u
    named_tag w si pl g t pr = tag_letter.answer w pl pr

    tag_open : (f : FileFault) → (d ≡ 41 → ⊥) → fault_of f ≡ wrong_call d → TagFrom s a p old out n v k (refused f u)
    tag_open f g h w l si =
        ends_wrong s a p old out n 0 si k (λ pl. calling pl (tagged w)) (tag_named w i tag_letter.move) (named_tag w si) tag_letter.here f tag_letter.solid
        (tag_unclosed si w i d tag_letter.move g (joined (is_sign d) (is_still tag_letter.move) tag_letter.last)) h

    tag_unfit : d ≡ 41 → ((w : ℕ) → v ≡ most w → within 1 k w ≡ false) → (f : FileFault) → fault_of f ≡ wrong_call d → TagFrom s a p old out n v k (refused f u)
    tag_unfit g h f j w l si =
        let y =
        ends_unfit s a p old out n 0 si k (λ pl. calling pl (tagged w)) (tag_named w i tag_letter.move) (named_tag w si) tag_letter.here
        (store_tag w i tag_letter.move) (tag_close si w i d tag_letter.move g) (tag_fits k w i tag_letter.move ∙ h w l)
        in
        (y.0, λ pl x t pr. y.1 pl x t pr ∙ ap (λ c. refused_at c u) (wrong_close ∙ (ap wrong_call (sym g) ∙ sym j)))

    pub tag_refused : {w : Bool} → Unclosed d 41 (Some v) k w → w ≡ true → (f : FileFault) → fault_of f ≡ wrong_call d → TagFrom s a p old out n v k (refused f u)
    tag_refused {w} x e f j =
        let y : Unclosed d 41 (Some v) k true = rw e at x in
        ⊎_elim (λ h. tag_open f h j) (λ h. tag_unfit h.0 (λ o c. unfit k v o c h.1) f j) y

    pub tag_done : {w : Bool} {mid : List ℕ} → Unclosed d 41 (Some v) k w → w ≡ false → k ≤ 99 → Wrote old mid n ((64 + m) ∷ i ∷ []) → Wrote mid out (n + 2) (42 ∷ v ∷ [])
        → TagFrom s a p old out n v k (Ok (u + 1, n + 4))
    tag_done {w} x e lim w₁ w₂ o l si =
        let y : Unclosed d 41 (Some v) k false = rw e at x in
        let lo = y.1.0 in
        let hi = y.1.1 in
        let same : o ≡ v = most_same o v l (omega (arith, hi)) in
        let t = tag_letter in
        ends_closed s a p old out n 0 si k (λ pl. calling pl (tagged o)) (tag_named o i t.move) (named_tag o si) t.here
        (store_tag o i t.move) (tag_close si o i d t.move y.0) (tag_fits k o i t.move ∙ within_yes k o (omega (arith, lo)) (omega (arith, hi)))
        (rw (tag_items o i t.move, ← t.code, same) (wrote_more {l = (64 + m) ∷ i ∷ []} w₁ w₂))
        (rw (tag_items o i t.move) refl)
        (omega (arith, t.further)) (omega (arith, t.further))
