-- Document 01, "Played cases": the starred ones, replayed with document 02's longer union (A2), and what the rules leave of
-- each, as one table.
--
--   Case        a job, cut where the case cuts it, with what is expected of it
--   Outcome     table as words, report, line-up and tally
--   shown qs S  a state as an outcome
--   outcome c   what the rules leave
--   wanted c    what is expected
--   union, same_set, row, entry, tally   requests, report rows, entries and tallies by their numbers
--   n for h        n grants for head h
--   up_from i n, neighbours i n   numbers in a row, and as many unions of neighbouring places
--   case, leaves   a case and an outcome by their parts, in the order of the documents' tables
--   cases       the table
use Rattle.std.specs.Prelude.{List, [], ◌∷◌, ◌++◌, map, ℕ, zero, suc, replicate}
use Rattle.job.specs.declared.Kind.TheVariants.{Union, SameSet}
use Rattle.job.specs.declared.Request.{Request}
use Rattle.job.specs.declared.Wait.{Wait}
use Rattle.job.specs.declared.Tally.{Tally}
use Rattle.word.specs.Word.{encode}
use Rattle.linearization.specs.Entry.{Entry}
use Rattle.rules.specs.declared.Row.{Row}
use Rattle.rules.specs.Table.{fresh}
use Rattle.rules.specs.State.{State, start, tally_of}
use Rattle.rules.specs.Run.{run}
use Rattle.rules.specs.Waits.{pair}

-- What a case names of what a run leaves.
pub record Outcome : Type 0 where
  pub words : List ℕ
  pub report : List Row
  pub entries : List Entry
  pub tally : Tally

-- A case is a job with the grants before its cut, and what it leaves.
pub record Case : Type 0 where
  pub nodes : ℕ
  pub heads : ℕ
  pub requests : List Request
  pub waits : List Wait
  pub schedule : List ℕ
  pub expected : Outcome

-- What a state shows.
abbrev pub shown : List Request → State → Outcome
shown qs S = record { words = map encode S.table; report = S.report; entries = S.entries; tally = tally_of qs S }

-- What the rules leave of the case.
abbrev pub outcome : Case → Outcome
outcome c = shown c.requests (run c.requests c.waits (start c.requests c.heads (fresh c.nodes)) c.schedule)

-- What the documents say of it.
abbrev pub wanted : Case → Outcome
wanted c = c.expected

-- Head, then the two places.
abbrev pub union : ℕ → ℕ → ℕ → Request
union h x y = record { head = h; kind = Union; x = x; y = y }

-- The same for a same-set.
abbrev pub same_set : ℕ → ℕ → ℕ → Request
same_set h x y = record { head = h; kind = SameSet; x = x; y = y }

-- Answer, first grant, last grant, grants used.
abbrev pub row : ℕ → ℕ → ℕ → ℕ → Row
row answer first last used = record { answer = answer; first = first; last = last; used = used }

-- Point and request.
abbrev pub entry : ℕ → ℕ → Entry
entry point request = record { point = point; request = request }

-- Idle grants, failed swaps, links, heads with work left.
abbrev pub tally : ℕ → ℕ → ℕ → ℕ → Tally
tally idle failed links working = record { idle = idle; failed = failed; links = links; working = working }

-- That many grants for a head.
infix 70 ◌for◌
abbrev pub ◌for◌ : ℕ → ℕ → List ℕ
n for h = replicate n h

-- That many numbers in a row.
abbrev pub up_from : ℕ → ℕ → List ℕ
up_from i zero = []
up_from i (suc n) = i ∷ up_from (suc i) n

-- That many unions of a place and the next one, each by the head of the place's number.
abbrev pub neighbours : ℕ → ℕ → List Request
neighbours i zero = []
neighbours i (suc n) = union i i (suc i) ∷ neighbours (suc i) n

-- Nodes, heads, requests, pairs of requests of which the later one waits, grants; and what they leave.
abbrev pub case : ℕ → ℕ → List Request → List Wait → List ℕ → Outcome → Case
case nodes heads requests waits schedule expected =
    record { nodes = nodes; heads = heads; requests = requests; waits = waits; schedule = schedule; expected = expected }

-- Words of the table, rows of the report, line-up, tally.
abbrev pub leaves : List ℕ → List Row → List Entry → Tally → Outcome
leaves words report entries tally = record { words = words; report = report; entries = entries; tally = tally }

-- The starred cases in document 01's order, each with what document 02 makes of it; after them schedules that reach what they
-- do not: wrong links that make a cycle, swaps that fail, ranks above 0, unions whose last swap writes; (02, A3) requests that wait;
-- (02, A4) more than sixteen heads; (02, A7) requests that others keep long.
abbrev pub cases : List Case
cases =
    -- One place, union 0 0, two grants: already together; point 2.
    case 1 1 (union 0 0 0 ∷ []) [] (2 for 0)
    (leaves (0 ∷ []) (row 2 1 2 2 ∷ []) (entry 2 0 ∷ []) (tally 0 0 0 0))
    ∷
    -- One place, same-set 0 0, two grants: yes; point 2.
    case 1 1 (same_set 0 0 0 ∷ []) [] (2 for 0)
    (leaves (0 ∷ []) (row 3 1 2 2 ∷ []) (entry 2 0 ∷ []) (tally 0 0 0 0))
    ∷
    -- Two places, union 0 1, six grants: words 1 and 65,537; linked, point 5. (02) It is not finished yet.
    case 2 1 (union 0 0 1 ∷ []) [] (6 for 0)
    (leaves (1 ∷ 65537 ∷ []) (row 0 1 0 6 ∷ []) (entry 5 0 ∷ []) (tally 0 0 1 1))
    ∷
    -- The same cut after five: words 1 and 1; answer 0, in the line-up at 5.
    case 2 1 (union 0 0 1 ∷ []) [] (5 for 0)
    (leaves (1 ∷ 1 ∷ []) (row 0 1 0 5 ∷ []) (entry 5 0 ∷ []) (tally 0 0 1 1))
    ∷
    -- After four: line-up empty.
    case 2 1 (union 0 0 1 ∷ []) [] (4 for 0)
    (leaves (0 ∷ 1 ∷ []) (row 0 1 0 4 ∷ []) [] (tally 0 0 0 1))
    ∷
    -- (02) After twelve: all but its last swap.
    case 2 1 (union 0 0 1 ∷ []) [] (12 for 0)
    (leaves (1 ∷ 65537 ∷ []) (row 0 1 0 12 ∷ []) (entry 5 0 ∷ []) (tally 0 0 1 1))
    ∷
    -- (02) A union 0 1 alone on two places takes 13 grants, the last a failed swap.
    case 2 1 (union 0 0 1 ∷ []) [] (13 for 0)
    (leaves (1 ∷ 65537 ∷ []) (row 1 1 13 13 ∷ []) (entry 5 0 ∷ []) (tally 0 1 1 0))
    ∷
    -- A further grant is idle.
    case 2 1 (union 0 0 1 ∷ []) [] (14 for 0)
    (leaves (1 ∷ 65537 ∷ []) (row 1 1 13 13 ∷ []) (entry 5 0 ∷ []) (tally 1 1 1 0))
    ∷
    -- Union 1 0: the x that was linked is 0, after the exchange.
    case 2 1 (union 0 1 0 ∷ []) [] (13 for 0)
    (leaves (1 ∷ 65537 ∷ []) (row 1 1 13 13 ∷ []) (entry 5 0 ∷ []) (tally 0 1 1 0))
    ∷
    -- Two places, same-set 0 1 alone: no, three grants, point 2.
    case 2 1 (same_set 0 0 1 ∷ []) [] (3 for 0)
    (leaves (0 ∷ 1 ∷ []) (row 4 1 3 3 ∷ []) (entry 2 0 ∷ []) (tally 0 0 0 0))
    ∷
    -- Two places, head 0 union 0 1, head 1 same-set 0 1: request 1 yes, first 1, last 15, nine grants, point 15.
    case 2 2 (union 0 0 1 ∷ same_set 1 0 1 ∷ []) [] (2 for 1 ++ 6 for 0 ++ 7 for 1)
    (leaves (1 ∷ 65537 ∷ []) (row 0 3 0 6 ∷ row 3 1 15 9 ∷ []) (entry 7 0 ∷ entry 15 1 ∷ []) (tally 0 0 1 1))
    ∷
    -- (02) The same, with the grants that the union still needs.
    case 2 2 (union 0 0 1 ∷ same_set 1 0 1 ∷ []) [] (2 for 1 ++ 6 for 0 ++ 7 for 1 ++ 7 for 0)
    (leaves (1 ∷ 65537 ∷ []) (row 1 3 22 13 ∷ row 3 1 15 9 ∷ []) (entry 7 0 ∷ entry 15 1 ∷ []) (tally 0 1 1 0))
    ∷
    -- Two places, two heads, both union 0 1: head 0 linked at 9; head 1 has one failed swap, already together.
    case 2 2 (union 0 0 1 ∷ union 1 0 1 ∷ []) [] (4 for 0 ++ 4 for 1 ++ 1 for 0 ++ 1 for 1 ++ 1 for 0 ++ 6 for 1)
    (leaves (1 ∷ 65537 ∷ []) (row 0 1 0 6 ∷ row 2 5 17 11 ∷ []) (entry 9 0 ∷ entry 17 1 ∷ []) (tally 0 1 1 1))
    ∷
    -- (02) The same, with the grants that head 0 still needs.
    case 2 2 (union 0 0 1 ∷ union 1 0 1 ∷ []) [] (4 for 0 ++ 4 for 1 ++ 1 for 0 ++ 1 for 1 ++ 1 for 0 ++ 6 for 1 ++ 7 for 0)
    (leaves (1 ∷ 65537 ∷ []) (row 1 1 24 13 ∷ row 2 5 17 11 ∷ []) (entry 9 0 ∷ entry 17 1 ∷ []) (tally 0 2 1 0))
    ∷
    -- No requests, three grants: three idle.
    case 1 1 [] [] (3 for 0)
    (leaves (0 ∷ []) [] [] (tally 3 0 0 0))
    ∷
    -- The program's job of 38 bytes: (02) request 0 becomes unfinished and one head has work left.
    case 4 2 (union 0 2 3 ∷ same_set 1 0 1 ∷ []) [] (2 for 1 ++ 6 for 0 ++ 1 for 1)
    (leaves (0 ∷ 1 ∷ 3 ∷ 65539 ∷ []) (row 0 3 0 6 ∷ row 4 1 9 3 ∷ []) (entry 2 1 ∷ entry 7 0 ∷ []) (tally 0 0 1 1))
    ∷
    -- Of no document: a link that stores y's rank, as the paper prints it, makes a cycle here.
    case 3 2 (union 0 0 1 ∷ union 0 2 1 ∷ union 1 1 2 ∷ []) [] (13 for 0 ++ 2 for 1 ++ 5 for 0 ++ 3 for 1)
    (leaves (1 ∷ 65537 ∷ 1 ∷ []) (row 1 1 13 13 ∷ row 0 16 0 5 ∷ row 0 14 0 5 ∷ []) (entry 5 0 ∷ entry 20 1 ∷ []) (tally 0 2 2 2))
    ∷
    -- Of no document: a link that does not compare x's rank makes a cycle here.
    case 3 2 (union 0 0 1 ∷ union 0 2 1 ∷ union 1 1 2 ∷ []) [] (4 for 1 ++ 18 for 0 ++ 1 for 1)
    (leaves (1 ∷ 65537 ∷ 1 ∷ []) (row 1 5 17 13 ∷ row 0 18 0 5 ∷ row 0 1 0 5 ∷ []) (entry 9 0 ∷ entry 22 1 ∷ []) (tally 0 2 2 2))
    ∷
    -- The same, played on: request 2 is already together at 29, after eleven grants.
    case 3 2 (union 0 0 1 ∷ union 0 2 1 ∷ union 1 1 2 ∷ []) [] (4 for 1 ++ 18 for 0 ++ 7 for 1)
    (leaves (1 ∷ 65537 ∷ 1 ∷ []) (row 1 5 17 13 ∷ row 0 18 0 5 ∷ row 2 1 29 11 ∷ [])
    (entry 9 0 ∷ entry 22 1 ∷ entry 29 2 ∷ []) (tally 0 2 2 1))
    ∷
    -- Of no document: an idle grant, a rank swap that fails at 33, a link of a node of rank 1 at 49, equal ranks with the
    -- lower number second.
    case 6 2 (union 1 3 5 ∷ union 0 0 1 ∷ union 0 5 4 ∷ union 0 3 1 ∷ []) [] (16 for 0 ++ 14 for 1 ++ 19 for 0)
    (leaves (1 ∷ 65541 ∷ 2 ∷ 5 ∷ 5 ∷ 65541 ∷ []) (row 1 17 29 13 ∷ row 1 1 13 13 ∷ row 1 14 40 13 ∷ row 0 41 0 9 ∷ [])
    (entry 5 1 ∷ entry 21 0 ∷ entry 32 2 ∷ entry 49 3 ∷ []) (tally 1 4 4 1))
    ∷
    -- Of no document: a rank swap that fails at 33, a link at 37, a halving of the find after the link at 42.
    case 4 2 (union 0 2 3 ∷ union 1 2 1 ∷ same_set 1 1 0 ∷ union 0 0 3 ∷ union 0 1 3 ∷ []) []
    (2 for 1 ++ 27 for 0 ++ 5 for 1 ++ 6 for 0 ++ 6 for 1)
    (leaves (3 ∷ 3 ∷ 3 ∷ 65539 ∷ []) (row 1 3 15 13 ∷ row 1 1 46 13 ∷ row 0 0 0 0 ∷ row 1 16 27 12 ∷ row 0 28 0 8 ∷ [])
    (entry 7 0 ∷ entry 20 3 ∷ entry 32 1 ∷ []) (tally 0 6 3 2))
    ∷
    -- Of no document: a link that fails after an exchange and is tried again at 35; a parent that moves between the two
    -- reads of t at 37 and 40.
    case 6 2 (union 1 3 1 ∷ union 0 3 0 ∷ union 0 2 1 ∷ union 0 2 3 ∷ []) [] (4 for 1 ++ 30 for 0 ++ 3 for 1 ++ 1 for 0 ++ 4 for 1)
    (leaves (3 ∷ 2 ∷ 65539 ∷ 65539 ∷ 4 ∷ 5 ∷ []) (row 2 1 42 11 ∷ row 1 5 17 13 ∷ row 1 18 30 13 ∷ row 0 31 0 5 ∷ [])
    (entry 9 1 ∷ entry 22 2 ∷ entry 38 3 ∷ entry 42 0 ∷ []) (tally 0 3 3 1))
    ∷
    -- Of no document: two halvings that fail, in a find from x at 43 and in the find after a link at 53; a root of rank 2.
    case 5 3 (union 0 3 4 ∷ union 1 4 1 ∷ union 1 2 3 ∷ union 0 2 3 ∷ union 2 2 1 ∷ []) []
    (9 for 1 ++ 2 for 0 ++ 11 for 1 ++ 12 for 0 ++ 7 for 2 ++ 10 for 0 ++ 7 for 1)
    (leaves (0 ∷ 4 ∷ 4 ∷ 65540 ∷ 131076 ∷ []) (row 1 10 33 13 ∷ row 1 1 15 13 ∷ row 1 16 57 13 ∷ row 2 34 50 10 ∷ row 0 35 0 7 ∷ [])
    (entry 5 1 ∷ entry 20 2 ∷ entry 25 0 ∷ entry 50 3 ∷ []) (tally 2 5 3 1))
    ∷
    -- (02) The last swap of a union writes at 18: the find after its link has ended at a root that nobody has raised,
    -- and that the linked 0 is below.
    case 3 2 (union 1 2 1 ∷ union 0 1 0 ∷ []) [] (2 for 1 ++ 5 for 0 ++ 3 for 1 ++ 8 for 0)
    (leaves (2 ∷ 2 ∷ 65538 ∷ []) (row 0 1 0 5 ∷ row 1 3 18 13 ∷ []) (entry 7 1 ∷ entry 10 0 ∷ []) (tally 0 1 2 1))
    ∷
    -- One grant earlier.
    case 3 2 (union 1 2 1 ∷ union 0 1 0 ∷ []) [] (2 for 1 ++ 5 for 0 ++ 3 for 1 ++ 7 for 0)
    (leaves (2 ∷ 2 ∷ 2 ∷ []) (row 0 1 0 5 ∷ row 0 3 0 12 ∷ []) (entry 7 1 ∷ entry 10 0 ∷ []) (tally 0 1 2 2))
    ∷
    -- (02) A union of unequal ranks has no rank swap, and tidies up too: twelve grants.
    case 3 1 (union 0 0 1 ∷ union 0 2 1 ∷ []) [] (25 for 0)
    (leaves (1 ∷ 65537 ∷ 1 ∷ []) (row 1 1 13 13 ∷ row 1 14 25 12 ∷ []) (entry 5 0 ∷ entry 18 1 ∷ []) (tally 0 2 2 0))
    ∷
    -- (02, A3) A cage is closed before its van is asked about: the same-set waits through 1 to 3, and begins at 17.
    case 2 2 (union 0 0 1 ∷ same_set 1 0 1 ∷ []) (pair 1 0 ∷ []) (3 for 1 ++ 13 for 0 ++ 6 for 1)
    (leaves (1 ∷ 65537 ∷ []) (row 1 4 16 13 ∷ row 3 17 22 6 ∷ []) (entry 8 0 ∷ entry 22 1 ∷ []) (tally 3 1 1 0))
    ∷
    -- The same without the pair: it is answered at once.
    case 2 2 (union 0 0 1 ∷ same_set 1 0 1 ∷ []) [] (3 for 1 ++ 13 for 0 ++ 6 for 1)
    (leaves (1 ∷ 65537 ∷ []) (row 1 4 16 13 ∷ row 4 1 3 3 ∷ []) (entry 2 1 ∷ entry 8 0 ∷ []) (tally 6 1 1 0))
    ∷
    -- (02, A3) Linked is not finished: the same-set still waits after the union's twelfth grant,
    case 2 2 (union 0 0 1 ∷ same_set 1 0 1 ∷ []) (pair 1 0 ∷ []) (12 for 0 ++ 2 for 1)
    (leaves (1 ∷ 65537 ∷ []) (row 0 1 0 12 ∷ row 0 0 0 0 ∷ []) (entry 5 0 ∷ []) (tally 2 0 1 2))
    ∷
    -- and begins after its thirteenth.
    case 2 2 (union 0 0 1 ∷ same_set 1 0 1 ∷ []) (pair 1 0 ∷ []) (13 for 0 ++ 2 for 1)
    (leaves (1 ∷ 65537 ∷ []) (row 1 1 13 13 ∷ row 0 14 0 2 ∷ []) (entry 5 0 ∷ []) (tally 0 1 1 1))
    ∷
    -- (02, A3) A pair within one head has no effect.
    case 2 1 (union 0 0 1 ∷ same_set 0 0 1 ∷ []) (pair 1 0 ∷ []) (19 for 0)
    (leaves (1 ∷ 65537 ∷ []) (row 1 1 13 13 ∷ row 3 14 19 6 ∷ []) (entry 5 0 ∷ entry 19 1 ∷ []) (tally 0 1 1 0))
    ∷
    -- (02, A3) A request that waits for two: head 2 waits for 0 all along.
    case 4 3 (union 0 0 1 ∷ union 1 2 3 ∷ same_set 2 0 3 ∷ []) (pair 2 0 ∷ pair 2 1 ∷ [])
    (1 for 2 ++ 13 for 1 ++ 1 for 2 ++ 13 for 0 ++ 3 for 2)
    (leaves (1 ∷ 65537 ∷ 3 ∷ 65539 ∷ []) (row 1 16 28 13 ∷ row 1 2 14 13 ∷ row 0 29 0 3 ∷ []) (entry 6 1 ∷ entry 20 0 ∷ []) (tally 2 2 2 1))
    ∷
    -- (02, A3) Requests that wait in a chain.
    case 4 3 (union 0 0 1 ∷ union 1 2 3 ∷ same_set 2 0 3 ∷ []) (pair 1 0 ∷ pair 2 1 ∷ [])
    (2 for 2 ++ 2 for 1 ++ 13 for 0 ++ 13 for 1 ++ 3 for 2)
    (leaves (1 ∷ 65537 ∷ 3 ∷ 65539 ∷ []) (row 1 5 17 13 ∷ row 1 18 30 13 ∷ row 0 31 0 3 ∷ []) (entry 9 0 ∷ entry 22 1 ∷ []) (tally 4 2 2 1))
    ∷
    -- (02, A3) A head's first request waits for none and is served, its second waits.
    case 2 2 (union 0 0 1 ∷ same_set 1 0 0 ∷ same_set 1 0 1 ∷ []) (pair 2 0 ∷ []) (3 for 1 ++ 13 for 0 ++ 6 for 1)
    (leaves (1 ∷ 65537 ∷ []) (row 1 4 16 13 ∷ row 3 1 2 2 ∷ row 3 17 22 6 ∷ []) (entry 2 1 ∷ entry 8 0 ∷ entry 22 2 ∷ []) (tally 1 1 1 0))
    ∷
    -- (02, A4) The last of 32 heads has the one request; a grant to the head before it is idle.
    case 2 32 (union 31 0 1 ∷ []) [] (13 for 31 ++ 1 for 30)
    (leaves (1 ∷ 65537 ∷ []) (row 1 1 13 13 ∷ []) (entry 5 0 ∷ []) (tally 1 1 1 0))
    ∷
    -- (02, A4) The last of 17 heads.
    case 2 17 (same_set 16 0 1 ∷ []) [] (3 for 16)
    (leaves (0 ∷ 1 ∷ []) (row 4 1 3 3 ∷ []) (entry 2 0 ∷ []) (tally 0 0 0 0))
    ∷
    -- (02, A4) All 32 heads have work left.
    case 33 32 (neighbours 0 32) [] []
    (leaves (up_from 0 33) (replicate 32 (row 0 0 0 0)) [] (tally 0 0 0 32))
    ∷
    -- (02, A7) A union links between a same-set's two finds, and makes it try again: 13 grants of the 22 that it may take,
    case 2 2 (same_set 0 0 0 ∷ union 1 0 1 ∷ []) [] (4 for 1 ++ 1 for 0 ++ 1 for 1 ++ 12 for 0)
    (leaves (1 ∷ 1 ∷ []) (row 3 5 18 13 ∷ row 0 1 0 5 ∷ []) (entry 6 1 ∷ entry 18 0 ∷ []) (tally 0 0 1 1))
    ∷
    -- and the last one is needed.
    case 2 2 (same_set 0 0 0 ∷ union 1 0 1 ∷ []) [] (4 for 1 ++ 1 for 0 ++ 1 for 1 ++ 11 for 0)
    (leaves (1 ∷ 1 ∷ []) (row 0 5 0 12 ∷ row 0 1 0 5 ∷ []) (entry 6 1 ∷ []) (tally 0 0 1 2))
    ∷
    -- (02, A7) The same twice, along a chain of three places: 24 grants of 33;
    case 3 3 (same_set 0 0 0 ∷ union 1 0 1 ∷ union 2 1 2 ∷ []) []
    (4 for 1 ++ 4 for 2 ++ 1 for 0 ++ 1 for 1 ++ 11 for 0 ++ 1 for 2 ++ 12 for 0)
    (leaves (1 ∷ 2 ∷ 2 ∷ []) (row 3 9 34 24 ∷ row 0 1 0 5 ∷ row 0 5 0 5 ∷ [])
    (entry 10 1 ∷ entry 22 2 ∷ entry 34 0 ∷ []) (tally 0 0 2 2))
    ∷
    -- three times, of four places: 35 of 44.
    case 4 4 (same_set 0 0 0 ∷ union 1 0 1 ∷ union 2 1 2 ∷ union 3 2 3 ∷ []) []
    (4 for 1 ++ 4 for 2 ++ 4 for 3 ++ 1 for 0 ++ 1 for 1 ++ 11 for 0 ++ 1 for 2 ++ 11 for 0 ++ 1 for 3 ++ 12 for 0)
    (leaves (1 ∷ 2 ∷ 3 ∷ 3 ∷ []) (row 3 13 50 35 ∷ row 0 1 0 5 ∷ row 0 5 0 5 ∷ row 0 9 0 5 ∷ [])
    (entry 14 1 ∷ entry 26 2 ∷ entry 38 3 ∷ entry 50 0 ∷ []) (tally 0 0 3 3))
    ∷
    -- (02, A7) A union instead of the same-set: its link fails once, 15 grants of 54;
    case 2 2 (union 0 0 0 ∷ union 1 0 1 ∷ []) [] (4 for 1 ++ 1 for 0 ++ 1 for 1 ++ 14 for 0)
    (leaves (1 ∷ 1 ∷ []) (row 2 5 20 15 ∷ row 0 1 0 5 ∷ []) (entry 6 1 ∷ entry 20 0 ∷ []) (tally 0 1 1 1))
    ∷
    -- twice, 28 of 76.
    case 3 3 (union 0 0 0 ∷ union 1 0 1 ∷ union 2 1 2 ∷ []) []
    (4 for 1 ++ 4 for 2 ++ 1 for 0 ++ 1 for 1 ++ 13 for 0 ++ 1 for 2 ++ 14 for 0)
    (leaves (1 ∷ 2 ∷ 2 ∷ []) (row 2 9 38 28 ∷ row 0 1 0 5 ∷ row 0 5 0 5 ∷ [])
    (entry 10 1 ∷ entry 24 2 ∷ entry 38 0 ∷ []) (tally 0 2 2 2))
    ∷ []
