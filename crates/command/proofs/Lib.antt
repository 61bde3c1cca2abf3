pub mod AllVerbs
