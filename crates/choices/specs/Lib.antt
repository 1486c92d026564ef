-- The choice by keys.
pub mod Steps
