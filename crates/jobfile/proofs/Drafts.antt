-- Drafts: what it says that the writer refuses nothing, and that it refuses no admitted job.
--
--   admitted_draft      the job of a draft that is not refused is admitted
--   complete_given      rights whose number is not refused are none or one a head
--   draft_passes        the draft of an admitted job is not refused
--   job_drafted         the draft of a job stands for that job
use mathlib.Core.Path.{◌≡◌, refl, ◌∙◌, sym, ap}
use mathlib.Core.List.{List, [], ◌∷◌, map}
use Prim.Native.Nat.{ℕ, zero, suc, ◌<◌}
use native.Mathlib.Omega.{arith}
use lib.Dec.{eqb, ltb, leb}
use lib.ListN.{length, get_or, length-map}
use borrow.Author.Tests.{eqb-true, ltb-false, leb-false, eq-eqb, ne_eqb, le-ltb, lt-leb}
use Rattle.basics.proofs.Conditions.{split}
use Rattle.job.specs.declared.Request.{Request}
use Rattle.job.specs.declared.Wait.{Wait}
use Rattle.job.specs.declared.Right.{Right}
use Rattle.job.specs.Job.{Job, kind_number, most_requests, may_ask, right_of}
use Rattle.jobfile.specs.declared.Fields.{Fields}
use Rattle.jobfile.specs.Format.{most_bytes, first_refusal, fields_refusal, asked_refusal, request_of, no_pair, length_refusal}
use Rattle.jobfile.specs.Written.{written}
use Rattle.jobfile.specs.Draft.{Draft, rights_given, fields_of, pairs_of, job_of, complete_refusal, count_refusal, each_refusal}
use Rattle.jobfile.specs.Draft.{grants_refusal, draft_refusal, right_numbers, numbers_of, pair_numbers, draft_of}
use Rattle.jobfile.specs.Admitted.{Serves, Admitted}
use Rattle.jobfile.proofs.Refusals.{passed, through, sized, sized_passes, fit, fit_passes, may, may_passes}
use Rattle.jobfile.proofs.Rights.{holds_checked, checked_holds}
use Rattle.jobfile.proofs.Pairs.{rising_each, rising_next, rising_all, rising_checked, checked_rising}
use Rattle.jobfile.proofs.Runs.{Below, below_tail}
use Rattle.jobfile.proofs.KindNumbers.{kind_back, some_kind, few_kinds}

-- a list of rights is none, or one a head
pub complete_given : (heads count : ℕ) → complete_refusal heads count ≡ 0 → 0 < count → count ≡ heads
unfolding complete_refusal
complete_given heads zero e some = absurd (omega arith)
complete_given heads (suc count) e some =
    split (eqb (suc count) heads) (eqb-true (suc count) heads)
    (λ other. let refused : ◌≡◌ {A = ℕ} 19 0 = rw (ne_eqb (suc count) 0 (λ z. omega arith), other) at e in absurd (omega arith))

given_complete : (heads count : ℕ) → (0 < count → count ≡ heads) → complete_refusal heads count ≡ 0
unfolding complete_refusal
given_complete heads zero complete = refl
given_complete heads (suc count) complete =
    rw (ne_eqb (suc count) 0 (λ z. omega arith), eq-eqb (suc count) heads (complete (omega arith)))

fields_serve : (nodes heads : ℕ) (rights : List Right) (qs : List Fields) → each_refusal nodes heads rights qs ≡ 0
    → (q : ℕ) (none : Request) → q < length (map request_of qs) → Serves nodes heads rights (get_or (map request_of qs) q none)
unfolding first_refusal
fields_serve nodes heads rights [] e q none l = absurd (omega arith)
fields_serve nodes heads rights (f ∷ qs) e zero none l =
    let asked = through (fields_refusal nodes heads f) _ (through (asked_refusal nodes heads rights f) _ e).first in
    let p = fit nodes heads f asked.first in
    record { head = p.head; x = p.x; y = p.y; asks = may _ _ asked.second }
fields_serve nodes heads rights (f ∷ qs) e (suc q) none l =
    fields_serve nodes heads rights qs (through (asked_refusal nodes heads rights f) _ e).second q none (omega arith)

grants_below : (heads : ℕ) (gs : List ℕ) → grants_refusal heads gs ≡ 0 → Below heads gs
unfolding grants_refusal
grants_below heads [] e i none l = absurd (omega arith)
grants_below heads (g ∷ gs) e zero none l = leb-false heads g (passed (leb heads g) 9 _ e).test
grants_below heads (g ∷ gs) e (suc i) none l = grants_below heads gs (passed (leb heads g) 9 _ e).rest i none (omega arith)

pub admitted_draft : (d : Draft) → draft_refusal d ≡ 0 → Admitted (job_of d)
unfolding draft_refusal job_of count_refusal length_refusal
admitted_draft d e =
    let a = through _ _ e in
    let m = through _ _ a.second in
    let r = through _ _ m.second in
    let b = through _ _ r.second in
    let q = through _ _ b.second in
    let w = through _ _ q.second in
    let g = through _ _ w.second in
    let count = length (fields_of d.requests) in
    let rising = rising_checked count no_pair (pairs_of d.waits) w.first in
    let s = sized d.nodes d.heads a.first in
    let rights = rights_given d.rights in
    record {
      some_nodes = s.some_nodes;
      few_nodes = s.few_nodes;
      some_heads = s.some_heads;
      few_heads = s.few_heads;
      few_requests = rw length-map (ltb-false most_requests count (passed (ltb most_requests count) 8 _ b.first).test);
      complete = complete_given d.heads (length rights) m.first;
      each_right = holds_checked d.heads rights r.first;
      each_request = fields_serve d.nodes d.heads rights (fields_of d.requests) q.first;
      each_wait = rw length-map (rising_each count no_pair (pairs_of d.waits) rising);
      rising = rising_next count no_pair (pairs_of d.waits) rising;
      each_grant = grants_below d.heads d.schedule g.first;
      short = ltb-false most_bytes (length (written (job_of d))) (passed (ltb most_bytes (length (written (job_of d)))) 0 _ g.second).test;
    }

requests_drafted : (qs : List Request) → map request_of (fields_of (numbers_of qs)) ≡ qs
requests_drafted [] = refl
requests_drafted (q ∷ qs) = λ i. record { head = q.head; kind = kind_back q.kind i; x = q.x; y = q.y } ∷ requests_drafted qs i

rights_drafted : (rs : List Right) → rights_given (right_numbers rs) ≡ rs
rights_drafted [] = refl
rights_drafted (r ∷ rs) = ap (λ (l : List Right). r ∷ l) (rights_drafted rs)

pairs_drafted : (ws : List Wait) → pairs_of (pair_numbers ws) ≡ ws
pairs_drafted [] = refl
pairs_drafted (w ∷ ws) = ap (λ (l : List Wait). w ∷ l) (pairs_drafted ws)

pub job_drafted : (j : Job) → job_of (draft_of j) ≡ j
unfolding job_of
job_drafted j = λ i. record {
  nodes = j.nodes;
  heads = j.heads;
  rights = rights_drafted j.rights i;
  requests = requests_drafted j.requests i;
  waits = pairs_drafted j.waits i;
  schedule = j.schedule;
}

serve_fields : (nodes heads : ℕ) (rights : List Right) (qs : List Request)
    → ((q : ℕ) (none : Request) → q < length qs → Serves nodes heads rights (get_or qs q none))
    → each_refusal nodes heads rights (fields_of (numbers_of qs)) ≡ 0
unfolding first_refusal
serve_fields nodes heads rights [] each = refl
serve_fields nodes heads rights (q ∷ qs) each =
    let s = each 0 q (omega arith) in
    let f : Fields = record { head = q.head; kind = kind_number q.kind; x = q.x; y = q.y } in
    let held = (right_of rights q.head).rights in
    rw (
      fit_passes nodes heads f (record {
        head = s.head;
        some_kind = some_kind q.kind;
        few_kinds = few_kinds q.kind;
        x = s.x;
        y = s.y;
      }),
      may_passes held (kind_number q.kind) (ap (may_ask held) (kind_back q.kind) ∙ s.asks),
    )
    (serve_fields nodes heads rights qs (λ i none l. each (suc i) none (omega arith)))

below_grants : (heads : ℕ) (gs : List ℕ) → Below heads gs → grants_refusal heads gs ≡ 0
unfolding grants_refusal
below_grants heads [] b = refl
below_grants heads (g ∷ gs) b = rw (lt-leb heads g (b 0 0 (omega arith))) (below_grants heads gs (below_tail heads g gs b))

pub draft_passes : (j : Job) → Admitted j → draft_refusal (draft_of j) ≡ 0
unfolding draft_refusal count_refusal length_refusal
draft_passes j a =
    let count : length (fields_of (numbers_of j.requests)) ≡ length j.requests =
    sym (length-map (fields_of (numbers_of j.requests)) request_of) ∙ ap length (requests_drafted j.requests) in
    simp (
      sized_passes j.nodes j.heads (record {
        some_nodes = a.some_nodes;
        few_nodes = a.few_nodes;
        some_heads = a.some_heads;
        few_heads = a.few_heads;
      }),
      rights_drafted j.rights,
      given_complete j.heads (length j.rights) a.complete,
      checked_holds j.heads j.rights a.each_right,
      count,
      le-ltb most_requests (length j.requests) a.few_requests,
      serve_fields j.nodes j.heads j.rights j.requests a.each_request,
      pairs_drafted j.waits,
      checked_rising (length j.requests) no_pair j.waits (rising_all (length j.requests) j.waits a.each_wait a.rising),
      below_grants j.heads j.schedule a.each_grant,
      job_drafted j,
      le-ltb most_bytes (length (written j)) a.short,
    )
