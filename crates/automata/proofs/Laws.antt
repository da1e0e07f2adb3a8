-- Laws: the laws of this crate that crates above cite. A law that is not named here may change.
-- the theorems, each in a statement that can be read by itself
pub use Rattle.automata.proofs.Theorems.{closing, comparing, comparing_more, concatenating, counting_more, counting-unique, counting-words, intersecting, living_same, membership, pairing, reaching_more, unfolding_language, uniting}
-- small laws of lists, options and tests that the library lacks
pub use Rattle.automata.proofs.ListLaws.{and-iff, any-iff, at_back, at_front, at_map, at_mem, at_none, at_some, Bool-ext, count_from-iff, each_at, each-join, each-mem, each-split, eqb-iff, flat_map-iff, get_elem?-append, get_elem?-lt, get_elem?-none, get_elem?-some, iff-trans, map-append, map-map, mem_at, mem_each, none-some, not_iff, or_iff, same_by-iff, snoc_at_cases}
-- runs one after the other, and runs carried over to other moves
pub use Rattle.automata.proofs.RunLaws.{joined}
-- what is computed of operations and arcs is what document 003 relates
pub use Rattle.automata.proofs.PerformingLaws.{successors-iff}
-- the walk numbers exactly what can be reached, each once, or shows more than its limit
pub use Rattle.automata.proofs.ExplorationLaws.{add-cases, add_all-at, add_all-cases, add_all-distinct, add_all-has, add_all-length, distinct_apart, has-iff, known-distinct, known-ended, known-long, known-sound}
-- how many things have a property: more than n is not n of them, and the same of a property that says the same
pub use Rattle.automata.proofs.CountingLaws.{counts_same, not_more}
-- the number of an element in a list: what it is of a member, of a new one, and that a number once given stays
pub use Rattle.automata.proofs.NumberLaws.{add-new, add-old, add_all-prefix, known-prefix, number-add, number_append, number_at, one_number}
-- exploring is the same on images, where f tells apart what the tests tell apart, on elements that have a property P.
pub use Rattle.automata.proofs.Mapped.{known_map, number-map}
-- the order of words: a word that does not come before another is at least as long
pub use Rattle.automata.proofs.WordOrderLaws.{not-before-long}
-- which bytes stand for one letter: that no two of a list do, and of two that do the lower is a capital, the higher its small letter and their key
pub use Rattle.automata.proofs.LetterLaws.{capital_and_small, higher_is_key, key-key, listed-iff, unlike-iff}
-- words as bytes: what they stand for, their order, and how properties of words carry over to them
pub use Rattle.automata.proofs.WordLaws.{letter_at, letter-first, letter-lt, letter-nowhere, same-many, same_letters-iff, spelled-both, spelled-one, spells-keys, spells-places}
-- the live set of a word holds exactly the ends of the runs that spell it
pub use Rattle.automata.proofs.LiveLaws.{by_letter-closed, by_letter-iff, closed_run, epsilon_closure-closed, epsilon_closure-iff, in_table, length-by_letter, length-rounds, length-table, run-below}
-- the numbered configurations and plain arcs run as the automaton does (document 003, Theorem 1)
pub use Rattle.automata.proofs.UnfoldingLaws.{distinct, first-configuration, meets-iff, moves_from, moves-to, same_configuration-iff, within}
-- the first of a list that passes a test, by what stands where in the list
pub use Rattle.automata.proofs.FirstLaws.{First, at, first_of-first, nowhere}
-- the pairs that the search meets are the pairs of words; their number is exact, and refusal 23 says what it should
pub use Rattle.automata.proofs.PairLaws.{same_pair-iff, shown-many}
-- the languages of the joined and the unfolded automata, for words of bytes and of every length
pub use Rattle.automata.proofs.LanguageLaws.{same-language}
-- exploring by letters: the state of the empty word has the first number, and once the walk has ended every letter stays among what was met
pub use Rattle.automata.proofs.SearchLaws.{met-closed, met-first}
-- the live sets of one automaton: two are the same just if the test says so, a word leads to its own, which is accepted just if the word is; and
-- they are met as the pairs of the automaton and itself are
pub use Rattle.automata.proofs.LiveSetLaws.{from_start, Led-accepts, same_set-iff}
pub use Rattle.automata.proofs.TwinWalk.{Twins-met}
-- sums over the letters, and that no more words of one length are counted than a number that all of them do not exceed
pub use Rattle.automata.proofs.SumLaws.{many-fits, sum_ext, sum_part}
-- the words of one length that an automaton accepts and the others are all words of that length
pub use Rattle.automata.proofs.LengthLaws.{both-many}
