-- Replays of a linearization by the sequential specification, over the operation and the reported answer of each request.
--
--   after operation B es           the labels after the operations of the entries, from the labels B
--   labels_to operation m B es     the labels after the rising entries up to point m
--   Replayed operation P claim B low es   the points rise from above low, P holds of each entry, and each is answered as claimed
--   Silent operation claim B request      at the labels B the request is answered as claimed and changes nothing
use mathlib.Core.Path.{◌≡◌, refl, sym, ap, ap₂, ◌∙◌, subst}
use mathlib.Core.Bool.{true, false, cond}
use mathlib.Core.List.{List, [], ◌∷◌, ◌++◌, map, Memᴰ}
use Prim.Native.Nat.{ℕ, suc, ◌<◌}
use native.Mathlib.Omega.{arith}
use lib.Dec.{ltb}
use borrow.Author.Tests.{ltb-true, ltb-false, lt-ltb, le-ltb}
use Rattle.basics.proofs.Conditions.{split}
use Rattle.job.specs.declared.Answer.{Answer}
use Rattle.linearization.specs.Partition.{Labels, Operation, reply, next, replay, replies}
use Rattle.linearization.specs.Entry.{Entry, insert, Rising, empty, rises, operations}
use Rattle.linearization.proofs.Partition.{Unjoined}
use Rattle.linearization.proofs.Entries.{entry, Free, Below}

abbrev pub after : (ℕ → Operation) → Labels → List Entry → Labels
after operation B es = replay B (operations operation es)

abbrev pub labels_to : (ℕ → Operation) → ℕ → Labels → List Entry → Labels
labels_to operation m B [] = B
labels_to operation m B (e ∷ es) = cond (ltb m e.point) B (labels_to operation m (next B (operation e.request)) es)

pub data Replayed (operation : ℕ → Operation) (P : Entry → Type 0) (claim : ℕ → Answer) : Labels → ℕ → List Entry → Type 0 where
  ended : {B : Labels} {low : ℕ} → Replayed operation P claim B low []
  placed :
      {B : Labels} {low : ℕ} {e : Entry} {es : List Entry} →
      low < e.point →
      P e →
      reply B (operation e.request) ≡ claim e.request →
      Replayed operation P claim (next B (operation e.request)) e.point es →
      Replayed operation P claim B low (e ∷ es)

pub record Silent (operation : ℕ → Operation) (claim : ℕ → Answer) (B : Labels) (request : ℕ) : Type 0 where
  pub answered : reply B (operation request) ≡ claim request
  pub unchanged : Unjoined B (operation request)

-- ---- labels up to a point

module _ (operation : ℕ → Operation) where
  pub after_snoc :
      (B : Labels) (es : List Entry) (e : Entry) →
      after operation B (es ++ (e ∷ [])) ≡ next (after operation B es) (operation e.request)
  after_snoc B [] e = refl
  after_snoc B (f ∷ es) e = after_snoc (next B (operation f.request)) es e

  -- up to a point that no entry is beyond, the labels are those after all
  pub labels_to_all : (m : ℕ) (B : Labels) (es : List Entry) → Below (suc m) es → labels_to operation m B es ≡ after operation B es
  labels_to_all m B [] below = refl
  labels_to_all m B (e ∷ es) below =
      let first : e.point < suc m = below e (Memᴰ.head refl) in
      rw (le-ltb m e.point (omega arith)) (labels_to_all m (next B (operation e.request)) es (λ f n. below f (Memᴰ.tail n)))

  -- they stop at the first entry beyond the point
  labels_to_stop : (m : ℕ) (B : Labels) (e : Entry) (es : List Entry) → ltb m e.point ≡ true → labels_to operation m B (e ∷ es) ≡ B
  labels_to_stop m B e es t = rw t

  labels_to_pass :
      (m : ℕ) (B : Labels) (e : Entry) (es : List Entry) →
      ltb m e.point ≡ false → labels_to operation m B (e ∷ es) ≡ labels_to operation m (next B (operation e.request)) es
  labels_to_pass m B e es t = rw t

  -- a later entry does not change them
  pub labels_to_snoc :
      (m : ℕ) (B : Labels) (es : List Entry) (e : Entry) → m < e.point
      → labels_to operation m B (es ++ (e ∷ [])) ≡ labels_to operation m B es
  labels_to_snoc m B [] e later = rw (lt-ltb m e.point later)
  labels_to_snoc m B (f ∷ es) e later =
      split (ltb m f.point) (λ t. rw t) (λ t. rw t (labels_to_snoc m (next B (operation f.request)) es e later))

-- ---- an entry that changes no labels

module _ (operation : ℕ → Operation) (point request : ℕ) where
  pub after_insert :
      (B : Labels) (es : List Entry) →
      Unjoined (labels_to operation point B es) (operation request) → after operation B (insert point request es) ≡ after operation B es
  after_insert B [] same = same
  after_insert B (e ∷ es) same =
      split (ltb point e.point)
      (λ t.
      let same_here = subst (λ C. Unjoined C (operation request)) (labels_to_stop operation point B e es t) same in
      rw t (ap (λ C. after operation C (e ∷ es)) same_here))
      (λ t.
      let same-on = subst (λ C. Unjoined C (operation request)) (labels_to_pass operation point B e es t) same in
      rw t (after_insert (next B (operation e.request)) es same-on))

  pub labels_to_insert :
      (m : ℕ) (B : Labels) (es : List Entry) →
      Unjoined (labels_to operation point B es) (operation request) →
      labels_to operation m B (insert point request es) ≡ labels_to operation m B es
  labels_to_insert m B [] same = split (ltb m point) (λ t. rw t) (λ t. rw t same)
  labels_to_insert m B (e ∷ es) same =
      split (ltb point e.point)
      (λ t.
      let same_here = subst (λ C. Unjoined C (operation request)) (labels_to_stop operation point B e es t) same in
      rw t
      (split (ltb m point)
      (λ u. rw (u, lt-ltb m e.point (omega (arith, ltb-true m point u, ltb-true point e.point t))))
      (λ u. rw u (ap (λ C. labels_to operation m C (e ∷ es)) same_here))))
      (λ t.
      let same-on = subst (λ C. Unjoined C (operation request)) (labels_to_pass operation point B e es t) same in
      rw t (ap (cond (ltb m e.point) B) (labels_to_insert m (next B (operation e.request)) es same-on)))

-- ---- replays

module _ {operation : ℕ → Operation} {P : Entry → Type 0} {claim : ℕ → Answer} where
  pub replayed_fact : {B : Labels} {low : ℕ} {es : List Entry} → Replayed operation P claim B low es → (e : Entry) → Memᴰ e es → P e
  replayed_fact (ended {B = B} {low = low}) e member = elim member [ ]
  replayed_fact (placed rise fact answered rest) e (Memᴰ.head same) = subst P (sym same) fact
  replayed_fact (placed rise fact answered rest) e (Memᴰ.tail member) = replayed_fact rest e member

  pub replayed_rising : {B : Labels} {low : ℕ} {es : List Entry} → Replayed operation P claim B low es → Rising low es
  replayed_rising ended = empty
  replayed_rising (placed rise fact answered rest) = rises rise (replayed_rising rest)

  -- the specification answers every entry as claimed
  pub replayed_replies :
      {B : Labels} {low : ℕ} {es : List Entry} →
      Replayed operation P claim B low es → replies B (operations operation es) ≡ map (λ e. claim e.request) es
  replayed_replies ended = refl
  replayed_replies (placed rise fact answered rest) = ap₂ {C = List Answer} (λ a as'. a ∷ as') answered (replayed_replies rest)

  -- an entry beyond all others
  pub replayed_snoc :
      {B : Labels} {low : ℕ} {es : List Entry} (e : Entry) →
      Replayed operation P claim B low es →
      low < e.point →
      Below e.point es →
      P e →
      reply (after operation B es) (operation e.request) ≡ claim e.request →
      Replayed operation P claim B low (es ++ (e ∷ []))
  replayed_snoc e ended above below fact answered = placed above fact answered ended
  replayed_snoc {es = f ∷ es} e (placed rise fact answered rest) above below fact-e answered-e =
      placed rise fact answered
      (replayed_snoc e rest (below f (Memᴰ.head refl)) (λ g m. below g (Memᴰ.tail m)) fact-e answered-e)

  -- an entry at a point of its own that changes no labels there
  pub replayed_insert :
      {B : Labels} {low : ℕ} {es : List Entry} (point request : ℕ) →
      Replayed operation P claim B low es →
      low < point →
      Free point es →
      P (entry point request) →
      Silent operation claim (labels_to operation point B es) request →
      Replayed operation P claim B low (insert point request es)
  replayed_insert point request ended above free fact silent = placed above fact silent.answered ended
  replayed_insert {B} {es = e ∷ es} point request (placed rise fact answered rest) above free fact-new silent =
      split (ltb point e.point)
      (λ t.
      let here = subst (λ C. Silent operation claim C request) (labels_to_stop operation point B e es t) silent in
      let later = placed (ltb-true point e.point t) fact answered rest in
      let still = subst (λ C. Replayed operation P claim C point (e ∷ es)) (sym here.unchanged) later in
      rw t (placed above fact-new here.answered still))
      (λ t.
      let distinct = free e (Memᴰ.head refl) in
      let behind : e.point < point = omega (arith, ltb-false point e.point t) in
      let on = subst (λ C. Silent operation claim C request) (labels_to_pass operation point B e es t) silent in
      rw t (placed rise fact answered (replayed_insert point request rest behind (λ f m. free f (Memᴰ.tail m)) fact-new on)))

-- the facts may weaken, and the claims change of requests that are not listed
pub replayed_map :
    {operation : ℕ → Operation} {P Q : Entry → Type 0} {claim claimed : ℕ → Answer} {B : Labels} {low : ℕ} {es : List Entry} →
    Replayed operation P claim B low es →
    ((e : Entry) → Memᴰ e es → P e → Q e) →
    ((e : Entry) → Memᴰ e es → claim e.request ≡ claimed e.request) →
    Replayed operation Q claimed B low es
replayed_map ended facts claims = ended
replayed_map {es = e ∷ es} (placed rise fact answered rest) facts claims =
    placed rise (facts e (Memᴰ.head refl) fact) (answered ∙ claims e (Memᴰ.head refl))
    (replayed_map rest (λ f m. facts f (Memᴰ.tail m)) (λ f m. claims f (Memᴰ.tail m)))
