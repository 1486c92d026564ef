-- Laws that the proofs of a script's functions cite.
mod RunLaws
