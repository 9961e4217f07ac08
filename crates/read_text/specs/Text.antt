-- The text of a call, and the end of any call: what reading them says of the machine.
use Rattle.std.specs.Prelude.{ℕ, ◌+◌, ◌-◌, ◌*◌, ◌%◌, ◌≤◌, ◌<◌, ◌≡◌, false, List, [], ◌∷◌, reverse, eqb, length, Ok, Err}
use Rattle.macros.specs.Macro.{Move, Call, pick, tags}
use Rattle.macros.specs.Read.{Part, Prior, Site, CallSite, site_of, pieces_of, behind_call}
use Rattle.macros.specs.ReadSoFar.Part.{calling, call_text}
use Rattle.macros.specs.ReadSoFar.Phase.{texted}
use Rattle.read_scan.specs.Scan.MacroRead.{refused_at}
use Rattle.form_table.specs.Form.{call_items, move_code}
use Rattle.read_scan.specs.Scan.{fault_of, run, Reached}
use Rattle.form_items.specs.Items.{Wrote}
use Rattle.read_scan.specs.Bytes.{Next}
use Rattle.read_ends.specs.Ends.{Ended, Zeroed}

-- THE ENDS OF CALLS

-- the machine comes from p in the state F to q in the state G, at every place of this kind,
-- behind a pattern of k tags
abbrev pub Comes : List ℕ → ℕ → Site → ℕ → (CallSite → Part) → ℕ → (CallSite → Part) → ℕ → Type 0
Comes s a si k F p G q =
    (pl : CallSite) → site_of pl ≡ si → tags (pieces_of pl) ≡ k → (pr : Prior)
    → run s a pr false p (F pl) ≡ run s a pr false q (G pl)

-- the call read from p up to q, from the state F on, and its items written from n up to e; x bytes of room come from what was read before p
pub record Called (s : List ℕ) (a p : ℕ) (old out : List ℕ) (n x : ℕ) (si : Site) (k : ℕ) (F : CallSite → Part) (q e : ℕ) : Type 0 where
  pub call : Call
  pub wrote : Wrote old out n (call_items call)
  pub used : e ≡ n + length (call_items call)
  pub room : e ≤ n + x + 2 * (q - p)
  pub further : p < q
  pub reached : Reached s a q
  pub answer : Comes s a si k F p (λ pl. behind_call pl call) q

-- what reading to the end of a call says
abbrev pub Ends : List ℕ → ℕ → ℕ → List ℕ → List ℕ → ℕ → ℕ → Site → ℕ → (CallSite → Part) → Ended → Type 0
Ends s a p old out n x si k F (Ok (q, e)) = Called s a p old out n x si k F q e
Ends s a p old out n x si k F (Err d) =
    (d.place ≤ length s) × ((pl : CallSite) → site_of pl ≡ si → tags (pieces_of pl) ≡ k → (pr : Prior)
    → run s a pr false p (F pl) ≡ refused_at (fault_of d.fault) d.place)

-- TEXT

-- what a byte of a text of k bytes says, spelled from p up to q
abbrev pub Texting : List ℕ → ℕ → ℕ → ℕ → Next → Type 0
Texting s a p k (Ok (b, q)) =
    (p ≤ q) × (q < length s) × (q ≤ a + 512) × (k < 100)
    × ((pl : CallSite) (i : ℕ) (v : Move) (t : List ℕ) → length t ≡ k → (pr : Prior)
    → run s a pr false p (call_text pl i v t) ≡ run s a pr false (q + 1) (call_text pl i v (b ∷ t)))
Texting s a p k (Err d) =
    (d.place ≤ length s) × ((pl : CallSite) (i : ℕ) (v : Move) (t : List ℕ) → length t ≡ k → (pr : Prior)
    → run s a pr false p (call_text pl i v t) ≡ refused_at (fault_of d.fault) d.place)

-- the text t, newest byte first, read from p up to q and written from n up to e
pub record TextRead (s : List ℕ) (a p : ℕ) (old out : List ℕ) (n q e : ℕ) : Type 0 where
  pub text : List ℕ
  pub wrote : Wrote old out n (reverse text)
  pub used : e ≡ n + length text
  pub short : length text ≤ 100
  pub room : length text < q - p
  pub reached : Reached s a q
  pub answer : (pl : CallSite) (i : ℕ) (v : Move) (pr : Prior)
      → run s a pr false p (call_text pl i v []) ≡ run s a pr false q (calling pl (texted i v text))

-- what reading the text of `&(i:text:)` gives
abbrev pub TextFrom : List ℕ → ℕ → ℕ → List ℕ → List ℕ → ℕ → Ended → Type 0
TextFrom s a p old out n (Ok (q, e)) = TextRead s a p old out n q e
TextFrom s a p old out n (Err d) =
    (d.place ≤ length s) × ((pl : CallSite) (i : ℕ) (v : Move) (pr : Prior)
    → run s a pr false p (call_text pl i v []) ≡ refused_at (fault_of d.fault) d.place)

-- behind a text of k bytes
unfoldable pub padding : ℕ → List ℕ
padding k = pick (eqb (k % 2) 0) [] (0 ∷ [])

-- around a text from n + 4 up to e: first its padding, then its length, then the item of the letter i with a move of the code m
abbrev pub PutStore : List ℕ → List ℕ → ℕ → ℕ → ℕ → ℕ → ℕ → Type 0
PutStore old out n e i m r =
    (r ≡ e + length (padding (e - (n + 4)))) × (padded : List ℕ) × (sized : List ℕ) × (length padded ≡ length old)
    × (length sized ≡ length old)
    × Wrote old padded e (padding (e - (n + 4))) × Wrote padded sized (n + 2) (43 ∷ (e - (n + 4)) ∷ [])
    × Wrote sized out n ((72 + m) ∷ i ∷ [])

-- behind the `:` of the letter i, whose move has the code m
abbrev pub StoreFrom : List ℕ → ℕ → ℕ → List ℕ → List ℕ → ℕ → ℕ → ℕ → Ended → Type 0
StoreFrom s a p old out n i m r =
    (v : Move) → m ≡ move_code v → (si : Site) (k : ℕ) → Ends s a p old out n 4 si k (λ pl. call_text pl i v []) r

-- the same, and what is left in all lent bytes
pub record StoreRead (s : List ℕ) (a p : ℕ) (old out : List ℕ) (n i m : ℕ) (r : Ended) : Type 0 where
  pub from : StoreFrom s a p old out n i m r
  pub zeros : Zeroed old out r
