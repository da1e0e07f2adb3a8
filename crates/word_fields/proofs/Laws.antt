-- Laws: the laws of this crate that callers cite.
-- frames: what was written where, and what is as it was
pub use Rattle.word_fields.proofs.FrameLaws.{Beside-kept, kept_same, kept_set, kept_then, kept-wider}
-- words kept but for two parts
pub use Rattle.word_fields.proofs.TwoFrames.{but_high, but_low, but_same, but_then, but_wider, part_same}
-- a field whose word is as it was
pub use Rattle.word_fields.proofs.FieldLaws.{field-same}
-- chains start with filled heads, and stay while their words and keys do; `push` itself says how an entry joins
pub use Rattle.word_fields.proofs.ChainLaws.{chain-kept, chain-start, last-is}
-- a walk along a chain sees the entries with the key, the last first
unfoldable pub use Rattle.word_fields.proofs.Lookup.{chosen}
pub use Rattle.word_fields.proofs.Lookup.{OnChain, chosen-off, chosen_on, off_chain, on_chain}
-- a loop that looks for a hit along a chain: the invariant Looked, with the measure (g + 1) % 65536
pub use Rattle.word_fields.proofs.Lookup.{Looked, found-hit, found-none, Looked-end, Looked-more, Looked-start}
-- what is found is the number that an exploration gives
pub use Rattle.word_fields.proofs.Numbers.{word_number}
