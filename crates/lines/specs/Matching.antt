-- 01, part 3: divisions and their tags. Which division is chosen, Choice states; Choosing computes it.
use Rattle.std.specs.Prelude.{◌≡◌, ℕ, zero, suc, ◌+◌, ◌*◌, ◌≤◌, ◌<◌, Bool, true, false, not, ◌||◌, ◌⊎◌, List, [], ◌∷◌, eqb, length, drop}
use Rattle.std.proofs.Math.Seq.{slice}
use Rattle.kinds.specs.Kind.{kind_of}
use Rattle.macros.specs.Macro.{Closure, Member, PatternUnit, Piece, within}
use Rattle.macros.specs.Macro.Closure.{once, one_or_more, zero_or_more}
use Rattle.macros.specs.Macro.Member.{single, range}
use Rattle.macros.specs.Macro.PatternUnit.{literal, kind, class, call_of}
use Rattle.macros.specs.Macro.Piece.{element, start, end, left, right}
use Rattle.lines.specs.State.{State, contents}

-- ONE COPY OF A UNIT, at a place from which the line has the bytes s to its end

-- a byte is there, and fits
unfoldable pub byte_fits : (ℕ → Bool) → List ℕ → Bool
byte_fits f [] = false
byte_fits f (b ∷ bs) = f b

-- the text stands at the head of the bytes
unfoldable pub begins : List ℕ → List ℕ → Bool
begins [] s = true
begins (c ∷ cs) [] = false
begins (c ∷ cs) (b ∷ bs) = elim (eqb c b) [ true ↦ begins cs bs | false ↦ false ]

-- the byte is one of the members, or in one of the ranges
unfoldable pub is_member : List Member → ℕ → Bool
is_member [] b = false
is_member (single c ∷ ms) b = eqb b c || is_member ms b
is_member (range a z ∷ ms) b = within a z b || is_member ms b

-- part 2: "a leading `~` means the complement"
unfoldable pub in_class : Bool → List Member → ℕ → Bool
in_class true ms b = not (is_member ms b)
in_class false ms b = is_member ms b

-- a copy of the unit stands here
unfoldable pub fits : State → PatternUnit → List ℕ → Bool
fits st (literal c) s = byte_fits (eqb c) s
fits st (kind n) s = byte_fits (kind_of n) s
fits st (class neg ms) s = byte_fits (in_class neg ms) s
fits st (call_of m i) s = begins (contents st m i) s

-- a copy's width
unfoldable pub width : State → PatternUnit → ℕ
width st (literal c) = 1
width st (kind n) = 1
width st (class neg ms) = 1
width st (call_of m i) = length (contents st m i)

-- A DIVISION, as a relation on the places of a line t

-- "A closure's span is whole copies of its unit": n copies in a row from place p on
unfoldable pub Copies : State → PatternUnit → List ℕ → ℕ → ℕ → Type 0
Copies st u t zero p = Unit {0}
Copies st u t (suc n) p = (fits st u (drop p t) ≡ true) × Copies st u t n (p + width st u)

-- the repeats that a closure may have, by a copy's width: "an empty entry counts once under `*` and no times under `*-`"
unfoldable pub Allowed : Closure → ℕ → ℕ → Type 0
Allowed once w n = n ≡ 1
Allowed one_or_more zero n = n ≡ 1
Allowed one_or_more (suc w) n = 1 ≤ n
Allowed zero_or_more zero n = n ≡ 0
Allowed zero_or_more (suc w) n = 0 ≤ n

-- the repeats of a piece, and the place where its span ends; what has no closure repeats once
pub data Span : Type 0 where
  span : (repeats : ℕ) → (stop : ℕ) → Span

-- a span for each piece in turn; a brace has an empty one
abbrev pub Division : Type 0
Division = List Span

-- the span from p to q with n repeats satisfies the piece; `^` is "place 0" and `$` "line end", "both of width zero"
unfoldable pub Satisfies : State → List ℕ → Piece → ℕ → ℕ → ℕ → Type 0
Satisfies st t (element u c) p n q = Allowed c (width st u) n × Copies st u t n p × (q ≡ p + n * width st u)
Satisfies st t start p n q = (p ≡ 0) × (n ≡ 1) × (q ≡ p)
Satisfies st t end p n q = (length t ≤ p) × (n ≡ 1) × (q ≡ p)
Satisfies st t left p n q = (n ≡ 1) × (q ≡ p)
Satisfies st t right p n q = (n ≡ 1) × (q ≡ p)

-- "A division at place p gives each element in order a span, the first starting at p and each next where the last ended"
unfoldable pub Divides : State → List ℕ → List Piece → ℕ → Division → Type 0
Divides st t [] p [] = Unit {0}
Divides st t [] p (x ∷ d) = ⊥
Divides st t (e ∷ es) p [] = ⊥
Divides st t (e ∷ es) p (span n q ∷ d) = Satisfies st t e p n q × Divides st t es q d

-- the place where a division at p ends
unfoldable pub end_of : ℕ → Division → ℕ
end_of p [] = p
end_of p (span n q ∷ d) = end_of q d

-- fewer repeats at the first closure where the two differ; pieces without a closure have 1 in every division, and never differ
unfoldable pub Fewer : Division → Division → Type 0
Fewer [] b = ⊥
Fewer (x ∷ a) [] = ⊥
Fewer (span m q ∷ a) (span n r ∷ b) = (m < n) ⊎ ((m ≡ n) × Fewer a b)

-- TAGS: "A tag runs from the end of what precedes its left brace to the end of what precedes its right."

-- the places where the spans end
abbrev pub stops : Division → List ℕ
stops [] = []
stops (span n q ∷ d) = q ∷ stops d

-- the end of what precedes the right brace that closes a tag; n: the tags opened inside it so far
unfoldable pub closing : ℕ → List Piece → List ℕ → ℕ
closing n [] qs = zero
closing n (e ∷ es) [] = zero
closing n (element u c ∷ es) (q ∷ qs) = closing n es qs
closing n (start ∷ es) (q ∷ qs) = closing n es qs
closing n (end ∷ es) (q ∷ qs) = closing n es qs
closing n (left ∷ es) (q ∷ qs) = closing (suc n) es qs
closing zero (right ∷ es) (q ∷ qs) = q
closing (suc n) (right ∷ es) (q ∷ qs) = closing n es qs

-- the text of the tag that has n left braces before its own
unfoldable pub tag_text : List ℕ → ℕ → List Piece → List ℕ → List ℕ
tag_text t n [] qs = []
tag_text t n (e ∷ es) [] = []
tag_text t n (element u c ∷ es) (q ∷ qs) = tag_text t n es qs
tag_text t n (start ∷ es) (q ∷ qs) = tag_text t n es qs
tag_text t n (end ∷ es) (q ∷ qs) = tag_text t n es qs
tag_text t n (right ∷ es) (q ∷ qs) = tag_text t n es qs
tag_text t zero (left ∷ es) (q ∷ qs) = slice q (closing zero es qs) t
tag_text t (suc n) (left ∷ es) (q ∷ qs) = tag_text t n es qs
