pub mod HookedWords
